use Rattle.std.proofs.Common.{◌≡◌, ◌++◌, ◌==◌, not, filter, map, take}
use Rattle.hm_rules.specs.ReplicaSteps.{known_or_page}
use Rattle.hm_vr.proofs.vr.Vr.push_known_or_pages.Given as goal

abbrev pub invariant-loop-member : goal.invariant-loop-member
invariant-loop-member l = l.outs ≡ l.initial.outs ++ map (known_or_page l.self) (filter (λ m. not (m == l.self.me)) (take l.member-index l.self.members))
