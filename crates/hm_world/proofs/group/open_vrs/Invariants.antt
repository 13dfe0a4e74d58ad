use Rattle.std.proofs.Common.{◌≡◌, map, take}
use Rattle.hm_rules.specs.Replica.{opened}
use Rattle.hm_world.proofs.group.open_vrs.Given as goal

abbrev pub invariant-loop-me : goal.invariant-loop-me
invariant-loop-me l = l.replicas.items ≡ map (λ me. opened me l.members l.cap) (take l.me-index l.me-items)
