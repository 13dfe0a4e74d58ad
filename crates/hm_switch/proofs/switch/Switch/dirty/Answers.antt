use Rattle.std.proofs.Common.{ℕ, Option, ap, ◌∙◌}
use Rattle.std.specs.Prelude.{is_some}
use Rattle.hm_dirtyset.specs.Table.{live_number}
use Rattle.hm_switch.specs.State.{SwitchState}
use Rattle.hm_switch.proofs.Turns.{dirty_is}
use Rattle.hm_switch.proofs.switch.Switch.dirty.Goals as goal

pub returns-clause-dirty : goal.returns-clause-dirty
returns-clause-dirty c = λ s h.
    c.is_some.ensures ∙ ap (λ (n : Option ℕ). is_some n) (c.get.ensures.number ∙ ap (λ (w : SwitchState). live_number w.dirty c.args.object) c.self.view_is) ∙ dirty_is c.args.self.now s h c.args.object
