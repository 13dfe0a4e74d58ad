use Rattle.std.proofs.Common.{◌≡◌, ◌+◌, ℕ, true, false, Some, refl, sym, ap, ◌∙◌, subst}
use Rattle.std.specs.Prelude.{◌==◌, if◌then◌else◌}
use Rattle.std.proofs.lemmas.Bool.{false≢true, true_from_ne_false}
use Rattle.hm_base.specs.Slots.{is_full, put}
use Rattle.hm_packet.specs.declared.turn.Turn.TheVariants as turn
use Rattle.hm_rules.specs.Switch.{on_write}
use Rattle.hm_dirtyset.specs.Table.{Table, slots_of, live_number}
use Rattle.hm_switch.specs.State.{SwitchState, put_from}
use Rattle.hm_switch.specs.Fields.{state_of}
use Rattle.hm_switch.specs.StandsFor.{StandsFor, TurnsTo}
use Rattle.hm_switch.proofs.Turns.{IsPut, write_refused, write_taken}
use Rattle.hm_switch.proofs.switch.Switch.on_write.Goals as goal

pub returns-in-Ok : goal.returns-in-Ok
returns-in-Ok c = λ s h.
    let old : SwitchState = state_of c.self.inside in
    let write = c.args.write.now in
    let before : StandsFor old s = subst (λ (w : SwitchState). StandsFor w s) (sym c.self.view_is) h in
    let seq : c.greatest-seq.result ≡ old.dirty.greatest = c.greatest-seq.ensures in
    let put : IsPut old.dirty c.put.new.self write.object = record {
      greatest = c.in-Ok.ensures.greatest ∙ ap (λ (k : ℕ). k + 1) seq;
      point = c.in-Ok.ensures.point;
      stages = c.in-Ok.ensures.stages;
      numbers = λ o. c.in-Ok.ensures.numbers o ∙ ap (λ (k : ℕ). if o == write.object then Some (k + 1) else live_number old.dirty o) seq;
      slots = c.in-Ok.ensures.slots ∙ ap (λ (k : ℕ). put (slots_of old.dirty) old.dirty.point write.object (k + 1)) seq;
    } in
    let room : is_full (slots_of old.dirty) old.dirty.point write.object ≡ false = c.in-Ok.ensures.room.0 refl in
    let made : c.pass_on.result ≡ put_from old.id (old.dirty.greatest + 1) old.route c.args.client write = c.pass_on.ensures ∙ ap (λ (k : ℕ). put_from old.id (k + 1) old.route c.args.client write) seq in
    subst (λ (w : SwitchState). TurnsTo w (record old { dirty = c.put.new.self }) c.pass_on.result s (on_write (is_full (slots_of w.dirty) w.dirty.point write.object) s c.args.client write)) c.self.view_is
    (write_taken old c.put.new.self c.pass_on.result s c.args.client write before c.self.invariant.point put room made)

pub returns-in-Err : goal.returns-in-Err
returns-in-Err c = λ s h.
    let old : SwitchState = state_of c.self.inside in
    let write = c.args.write.now in
    let before : StandsFor old s = subst (λ (w : SwitchState). StandsFor w s) (sym c.self.view_is) h in
    let full : is_full (slots_of old.dirty) old.dirty.point write.object ≡ true = true_from_ne_false (is_full (slots_of old.dirty) old.dirty.point write.object) (λ room. false≢true (c.in-Err.ensures.room.1 room)) in
    subst (λ (t : Table). TurnsTo c.args.self.now (record old { dirty = t }) turn.Full s (on_write (is_full (slots_of c.args.self.now.dirty) c.args.self.now.dirty.point write.object) s c.args.client write)) (sym c.in-Err.ensures.err)
    (subst (λ (w : SwitchState). TurnsTo w old turn.Full s (on_write (is_full (slots_of w.dirty) w.dirty.point write.object) s c.args.client write)) c.self.view_is
    (write_refused old turn.Full s c.args.client write before full c.in-Err.ensures.crowd refl))
