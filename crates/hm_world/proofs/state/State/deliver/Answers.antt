use Rattle.std.proofs.Common.{sym, ap, ◌∙◌, subst}
use Rattle.hm_packet.specs.Messages.{Message}
use Rattle.hm_rules.specs.World.{client_of}
use Rattle.hm_rules.specs.Deliveries.{to_client}
use Rattle.hm_world.specs.StateFields.{world_of, Quietly}
use Rattle.hm_world.proofs.SlotLemmas.{deliver_quietly}
use Rattle.hm_world.proofs.state.State.deliver.Goals as goal

pub returns-in-Client : goal.returns-in-Client
returns-in-Client c =
    let w = world_of c.args.self.now in
    deliver_quietly c.args.self.now c.to_client.new.self c.to_client.result c.args.packet.now _ _ (ap (λ (m : Message). m.dst) (sym c.packet.view_is) ∙ c.in-Client.is)
    (subst (λ (m : Message). Quietly c.args.self.now c.to_client.new.self c.to_client.result (to_client w (client_of w c.in-Client.number) m.body)) c.packet.view_is c.to_client.ensures)

pub returns-in-Replica : goal.returns-in-Replica
returns-in-Replica c = deliver_quietly c.args.self.now c.to_replica.new.self c.to_replica.result c.args.packet.now _ _ (ap (λ (m : Message). m.dst) (sym c.packet.view_is) ∙ c.in-Replica.is) c.to_replica.ensures

pub returns-in-Config : goal.returns-in-Config
returns-in-Config c = deliver_quietly c.args.self.now c.to_service.new.self c.to_service.result c.args.packet.now _ _ (ap (λ (m : Message). m.dst) (sym c.packet.view_is) ∙ c.in-Config.is) c.to_service.ensures
