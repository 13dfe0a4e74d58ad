use Rattle.std.proofs.Common.{sym, subst}
use Rattle.hm_rules.specs.Switch.{switch_step}
use Rattle.hm_switch.specs.State.{SwitchState}
use Rattle.hm_switch.specs.Fields.{state_of}
use Rattle.hm_switch.specs.StandsFor.{StandsFor, TurnsTo, refuses}
use Rattle.hm_switch.proofs.Turns.{step_taken}
use Rattle.hm_switch.proofs.switch.Switch.step.Goals as goal

pub returns : goal.returns
returns c = λ s h.
    let old : SwitchState = state_of c.self.inside in
    let before : StandsFor old s = subst (λ (w : SwitchState). StandsFor w s) (sym c.self.view_is) h in
    subst (λ (w : SwitchState). TurnsTo w c.on_packet.new.self c.on_packet.result s (switch_step (refuses w c.args.packet.now) s c.args.packet.now)) c.self.view_is
    (step_taken old c.on_packet.new.self c.on_packet.result s c.args.packet.now before c.if-self.false (λ t g. c.on_packet.ensures t g))
