use Rattle.std.proofs.Common.{◌≡◌, ℕ, Bool, Option, sym, ap, ◌∙◌}
use Rattle.hm_base.specs.declared.why.Why.{Why}
use Rattle.hm_codec.specs.declared.acted.Acted.{Acted}
use Rattle.hm_packet.specs.Messages.{Message}
use Rattle.hm_rules.specs.Replica.{Replica}
use Rattle.hm_rules.specs.Senders.{number}
use Rattle.hm_rules.specs.Viewstamped.{vr_takes, vr_row, vr_step}
use Rattle.hm_replica.specs.Refusals.{refusal}
use Rattle.hm_replica.specs.Steps.{step_of}
use Rattle.hm_vr.proofs.vr.Vr.step.Goals as goal

-- the answer of the tests, read at the replica and the packet as contracts see them
told : (r q : Replica) (m n : Message) (takes : Bool) (result : Option Why) → q ≡ r → n ≡ m → takes ≡ vr_takes n.body → result ≡ refusal q.me takes m → result ≡ refusal r.me (vr_takes m.body) m
told r q m n takes result member packet kind found =
    found ∙ ap (λ (x : Replica). refusal x.me takes m) member ∙ ap (λ (b : Bool). refusal r.me b m) (kind ∙ ap (λ (x : Message). vr_takes x.body) packet)

pub returns-in-Some : goal.returns-in-Some
returns-in-Some c =
    let r : Replica = c.args.self.now in
    let m : Message = c.args.packet.now in
    let found = sym (told r _ m _ c.takes.result c.refusal.result c.self.view_is c.packet.view_is c.takes.ensures c.refusal.ensures) ∙ c.in-Some.is in
    c.steps_give_their_parts.ensures r c.ignore.new.acted (vr_step r m) (ap (λ (a : Acted). step_of r a) c.ignore.ensures ∙ sym (c.refused_packets_are_ignored.ensures.refused vr_takes vr_row r m c.in-Some.why found))

pub returns-in-None : goal.returns-in-None
returns-in-None c =
    let r : Replica = c.args.self.now in
    let m : Message = c.args.packet.now in
    let found = sym (told r _ m _ c.takes.result c.refusal.result c.self.view_is c.packet.view_is c.takes.ensures c.refusal.ensures) ∙ c.in-None.is in
    let sender = c.number.ensures ∙ ap (λ (x : Message). number x.src) c.packet.view_is in
    let row = c.row.ensures ∙ ap (λ (n : ℕ). vr_row r n c.packet.inside.body) sender ∙ ap (λ (x : Message). vr_row r (number m.src) x.body) c.packet.view_is in
    c.steps_give_their_parts.ensures c.row.new.self c.row.new.acted (vr_step r m) (row ∙ sym (c.refused_packets_are_ignored.ensures.taken vr_takes vr_row r m found))
