use Rattle.std.proofs.Common.{◌≡◌, ◌-◌, true, sym, ap, subst, arith}
use Rattle.std.specs.Prelude.{Some, is_some}
use Rattle.hm_rules.specs.Switch.{AbstractSwitch}
use Rattle.hm_world.specs.Slotted.{finds_full}
use Rattle.hm_world.specs.Running.{Running, started_in, switches_in, IsTurn}
use Rattle.hm_world.specs.SwitchesFields.{running_of}
use Rattle.hm_world.proofs.TurnLemmas.{read_at, turned_at, turn_is, handled_after}
use Rattle.hm_world.proofs.switches.Switches.step.Goals as goal

pub invariant_of-self : goal.invariant_of-self
invariant_of-self c =
    let w = c.self.inside in
    let at = read_at (running_of w) c.args.number c.index_mut.result.now (subst (λ (x : Running). is_some (started_in (switches_in x) c.args.number) ≡ true) (sym c.self.view_is) c.requires.started) c.index_mut.ensures.value in
    let same : w.steps ≡ c.args.self.now.steps = ap (λ (x : Running). x.steps) c.self.view_is in
    record {
      handled = handled_after w.started.items w.steps (c.args.number - 1) c.index_mut.result.now c.step.new.self (finds_full c.index_mut.result.now c.args.packet.now.body) c.args.packet.now at.here c.step.ensures.switch c.self.invariant.handled;
      few = omega (arith, same, c.requires.few);
    }

pub returns : goal.returns
returns c =
    let w = c.self.inside in
    let at = read_at (running_of w) c.args.number c.index_mut.result.now (subst (λ (x : Running). is_some (started_in (switches_in x) c.args.number) ≡ true) (sym c.self.view_is) c.requires.started) c.index_mut.ensures.value in
    subst (λ (x : Running). (s : AbstractSwitch) → started_in (switches_in x) c.args.number ≡ Some s → IsTurn x (turned_at (running_of w) c.args.number c.step.new.self) c.args.number c.step.result s c.args.packet.now) c.self.view_is
    (turn_is (running_of w) c.index_mut.result.now c.step.new.self c.args.number c.step.result c.args.packet.now at c.step.ensures.switch c.step.ensures.turn c.step.ensures.slots)
