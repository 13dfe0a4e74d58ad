use Rattle.std.proofs.Common.{◌≡◌, ◌++◌, ◌==◌, not, filter, map, take}
use Rattle.hm_rules.specs.ReplicaSteps.{page_to}
use Rattle.hm_vr.proofs.vr.Vr.push_pages.Given as goal

abbrev pub invariant-loop-member : goal.invariant-loop-member
invariant-loop-member l = l.outs ≡ l.initial.outs ++ map (page_to l.self l.self.start l.self.known) (filter (λ m. not (m == l.self.me)) (take l.member-index l.self.members))
