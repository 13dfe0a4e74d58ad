-- What contracts see of the switches' fields, and what holds of them.
use Rattle.std.specs.Prelude.{◌≤◌, All}
use Rattle.hm_schedule.specs.Limits.{max_events}
use Rattle.hm_world.specs.Running.{Running}
use Rattle.hm_world.specs.Slotted.{Seen}
use Rattle.hm_world.specs.declared.switches.Switches.TheInside.{Inside}

abbrev pub running_of : Inside → Running
running_of s = record { seen = s.started.items; steps = s.steps }

pub record IsKept (s : Inside) : Type 0 where
  pub handled : All (λ (x : Seen). x.switch.handled ≤ s.steps) s.started.items
  pub few : s.steps ≤ max_events
