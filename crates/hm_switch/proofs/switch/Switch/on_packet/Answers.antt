use Rattle.std.proofs.Common.{◌≡◌, ℕ, Bool, true, sym, ap, ◌∙◌}
use Rattle.hm_base.specs.declared.node.Node.TheVariants as node
use Rattle.hm_packet.specs.declared.body.Body.{Body}
use Rattle.hm_packet.specs.Messages.{Message}
use Rattle.hm_rules.specs.Senders.{same_node, may_send}
use Rattle.hm_rules.specs.Switch.{AbstractSwitch, switch_takes}
use Rattle.hm_switch.specs.State.{SwitchState}
use Rattle.hm_switch.specs.StandsFor.{StandsFor, refuses}
use Rattle.hm_switch.proofs.Turns.{packet_kind, packet_foreign, reads_from_clients, takes_others}
use Rattle.hm_switch.proofs.switch.Switch.on_packet.Goals as goal

-- the packet is for this switch
mine : (result : Bool) (packet : Message) (seen : SwitchState) (s : AbstractSwitch) (id : ℕ) → StandsFor seen s → result ≡ same_node packet.dst (node.Switch id) → id ≡ seen.id → result ≡ true → same_node packet.dst (node.Switch s.id) ≡ true
mine result packet seen s id h test own is =
    ap (λ (k : ℕ). same_node packet.dst (node.Switch k)) (sym (own ∙ h.id)) ∙ sym test ∙ is

pub returns-in_default-src : goal.returns-in_default-src
returns-in_default-src c = λ s h.
    packet_foreign c.args.self.now s (refuses c.args.self.now c.args.packet.now) c.args.packet.now h
    (mine c.is_node.result c.args.packet.now c.args.self.now s c.self.inside.id h (c.is_node.ensures ∙ ap (λ (m : Message). same_node m.dst (node.Switch c.self.inside.id)) c.packet.view_is) (ap (λ (w : SwitchState). w.id) c.self.view_is) c.if-not-is_node.false)
    (ap (λ (m : Message). switch_takes m.body) (sym c.packet.view_is) ∙ ap (λ (b : Body). switch_takes b) c.in-Read.is)
    (ap (λ (m : Message). may_send m.src m.body) (sym c.packet.view_is) ∙ ap (λ (b : Body). may_send c.packet.inside.src b) c.in-Read.is ∙ reads_from_clients c.packet.inside.src c.in-Read.read c.in_default-src.not-Client)

pub returns-in_default : goal.returns-in_default
returns-in_default c = λ s h.
    packet_kind c.args.self.now s (refuses c.args.self.now c.args.packet.now) c.args.packet.now h
    (mine c.is_node.result c.args.packet.now c.args.self.now s c.self.inside.id h (c.is_node.ensures ∙ ap (λ (m : Message). same_node m.dst (node.Switch c.self.inside.id)) c.packet.view_is) (ap (λ (w : SwitchState). w.id) c.self.view_is) c.if-not-is_node.false)
    (ap (λ (m : Message). switch_takes m.body) (sym c.packet.view_is) ∙ takes_others c.packet.inside.body c.in_default.not-Read c.in_default.not-Write c.in_default.not-Done c.in_default.not-Route)
