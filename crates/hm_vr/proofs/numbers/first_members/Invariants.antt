use Rattle.std.proofs.Common.{◌≡◌}
use Rattle.hm_rules.specs.Numbers.{numbers_from}
use Rattle.hm_vr.proofs.numbers.first_members.Given as goal

abbrev pub invariant-loop-me : goal.invariant-loop-me
invariant-loop-me l = l.members ≡ numbers_from 0 l.me
