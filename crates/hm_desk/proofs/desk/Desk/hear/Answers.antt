use Rattle.std.proofs.Common.{refl, sym, subst}
use Rattle.std.specs.Prelude.{IsSome}
use Rattle.hm_worker.specs.Heard.{Heard}
use Rattle.hm_desk.proofs.Desks.{heard_packet}
use Rattle.hm_desk.proofs.desk.Desk.hear.Goals as goal

pub returns-in-Ok : goal.returns-in-Ok
returns-in-Ok c = (
  Heard.Packet c.decode.new.packet,
  (c.in-Ok.ensures.lawful, c.in-Ok.ensures.ok),
  heard_packet c.args.self.now.service _ c.decode.new.packet _ c.on_refused.result _ c.on_refused.ensures.service c.on_refused.ensures.did c.noted.ensures c.requires,
)

pub returns-in-Err : goal.returns-in-Err
returns-in-Err c = (Heard.Malformed, subst (λ o. IsSome o) (sym c.in-Err.ensures.err) refl, rw c.requires refl)
