use Rattle.std.proofs.Common.{sym, ap, subst}
use Rattle.hm_group_laws.specs.Groups.{IsSound}
use Rattle.hm_rules.specs.Runs.{Slotted}
use Rattle.hm_rules.specs.World.{World}
use Rattle.hm_schedule.specs.Setups.{setup_of}
use Rattle.hm_world.proofs.SetupLemmas.{can_form}
use Rattle.hm_world.proofs.world.World.open.Goals as goal

pub invariant_of-result : goal.invariant_of-result
invariant_of-result c =
    record {
      sound = subst (λ (w : World). IsSound w) (sym (ap (λ (s : Slotted). s.world) c.in_ok-open.ensures.opened)) (c.group_stays_sound.ensures.opens (setup_of c.args.setup.now) (can_form c.args.setup.now c.in_ok-open.ensures.lawful));
      state = c.in_ok-open.ensures.kept;
    }
