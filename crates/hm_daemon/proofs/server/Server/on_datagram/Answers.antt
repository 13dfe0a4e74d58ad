use Rattle.std.proofs.Common.{◌≡◌, subst}
use Rattle.hm_rules.specs.Deliveries.{replica_step}
use Rattle.hm_daemon.specs.Member.{kind_in, replica_in}
use Rattle.hm_worker.specs.Heard.{Heard}
use Rattle.hm_daemon.specs.Serving.{Serving, hears}
use Rattle.hm_daemon.proofs.ServeLemmas.{heard_step}
use Rattle.hm_daemon.proofs.server.Server.on_datagram.Goals as goal

pub returns-in-Ok : goal.returns-in-Ok
returns-in-Ok c =
    let inside = c.self.inside in
    let before : Serving = record { kind = kind_in inside.member; patience = inside.patience; left = inside.left; replica = replica_in inside.member } in
    let m = c.decode.new.packet in (
      Heard.Packet m,
      (c.in-Ok.ensures.lawful, c.in-Ok.ensures.ok),
      subst (λ (s : Serving). hears s (Heard.Packet m) ≡ record { serving = record { kind = kind_in c.step.new.self; patience = inside.patience; left = inside.patience; replica = replica_in c.step.new.self }; outs = c.step.new.acted.outs }) c.self.view_is
          (heard_step before inside.patience (kind_in c.step.new.self) (replica_in c.step.new.self) c.step.new.acted (replica_step before.kind before.replica m) c.step.ensures.kind c.step.ensures.step),
    )
