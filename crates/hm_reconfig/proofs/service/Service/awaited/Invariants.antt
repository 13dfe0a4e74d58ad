use Rattle.std.proofs.Common.{◌≡◌, drop}
use Rattle.std.specs.Prelude.{find, not, ◌&&◌}
use Rattle.hm_rules.specs.Numbers.{stands_in}
use Rattle.hm_reconfig.proofs.service.Service.awaited.Given as goal

abbrev pub invariant-loop-member : goal.invariant-loop-member
invariant-loop-member l = find (λ m. stands_in m l.live && not (stands_in m l.self.refused)) l.self.members ≡ find (λ m. stands_in m l.live && not (stands_in m l.self.refused)) (drop l.member-index l.self.members)
