use Rattle.hm_rules.specs.Runs.{finds_full}
use Rattle.hm_schedule.specs.Setups.{event_of}
use Rattle.hm_world.specs.StateFields.{world_of, slotted_of}
use Rattle.hm_world.proofs.SoundLemmas.{sound_after}
use Rattle.hm_world.proofs.world.World.event.Goals as goal

pub event-requires-clause-ready : goal.event-requires-clause-ready
event-requires-clause-ready c = record { declared = λ number s step. (c.sound_group_is_ready.ensures (world_of c.self.inside.state) c.self.invariant.sound number s step).declared }

pub invariant_of-self : goal.invariant_of-self
invariant_of-self c =
    let old = slotted_of c.self.inside.state in
    let e = event_of c.args.event.now in
    record {
      sound = sound_after c.event.result old (slotted_of c.event.new.self) e (c.group_stays_sound.ensures.happens old.world e (finds_full old e) c.self.invariant.sound) c.self.invariant.sound c.event.ensures.world c.event.ensures.err;
      state = c.event.ensures.kept;
    }
