use Rattle.std.proofs.Common.{◌≡◌, drop}
use Rattle.hm_rules.specs.Chain.{next_in}
use Rattle.hm_chain.proofs.neighbours.successor.Given as goal

abbrev pub invariant-loop-i : goal.invariant-loop-i
invariant-loop-i l = next_in l.me l.members ≡ next_in l.me (drop l.i l.members)
