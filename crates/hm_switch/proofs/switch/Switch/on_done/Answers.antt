use Rattle.std.proofs.Common.{◌≡◌, ◌≤◌, ℕ, max, sym, ap, ◌∙◌, subst, arith}
use Rattle.hm_rules.specs.Switch.{on_done}
use Rattle.hm_switch.specs.State.{SwitchState}
use Rattle.hm_switch.specs.Fields.{state_of}
use Rattle.hm_switch.specs.StandsFor.{StandsFor, TurnsTo}
use Rattle.hm_switch.proofs.Turns.{IsCleaned, done_raised}
use Rattle.hm_switch.proofs.switch.Switch.on_done.Goals as goal

pub returns : goal.returns
returns c = λ s h.
    let old : SwitchState = state_of c.self.inside in
    let before : StandsFor old s = subst (λ (w : SwitchState). StandsFor w s) (sym c.self.view_is) h in
    let later : c.max-point.result ≡ max old.dirty.point c.args.done.now.stamp.seq = c.max-point.ensures ∙ ap (λ (k : ℕ). max k c.args.done.now.stamp.seq) c.point.ensures in
    let within : c.args.done.now.stamp.seq ≤ old.dirty.greatest = omega (arith, c.greatest.ensures) in
    let cleaned : IsCleaned old.dirty c.clean_to.new.self (max old.dirty.point c.args.done.now.stamp.seq) = subst (λ (k : ℕ). IsCleaned old.dirty c.clean_to.new.self k) later
    (record { greatest = c.clean_to.ensures.greatest; point = c.clean_to.ensures.point; stages = c.clean_to.ensures.stages; numbers = c.clean_to.ensures.numbers; slots = c.clean_to.ensures.slots }) in
    subst (λ (w : SwitchState). TurnsTo w (record old { dirty = c.clean_to.new.self }) c.answer-2.result s (on_done s c.args.done.now)) c.self.view_is
    (done_raised old c.clean_to.new.self c.answer-2.result s c.args.done.now before c.if-done-self.false c.if-done-eq0.false within cleaned c.answer-2.ensures)
