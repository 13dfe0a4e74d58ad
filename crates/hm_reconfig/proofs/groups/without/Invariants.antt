use Rattle.std.proofs.Common.{◌≡◌, take}
use Rattle.std.specs.Prelude.{filter, not, ◌==◌}
use Rattle.hm_reconfig.specs.Groups.{listed}
use Rattle.hm_reconfig.proofs.groups.without.Given as goal

abbrev pub invariant-loop-member : goal.invariant-loop-member
invariant-loop-member l = listed l.rest ≡ filter (λ m. not (m == l.replica)) (take l.member-index l.members)
