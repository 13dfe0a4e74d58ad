-- What holds of the fields of a switch with its dirty table.
use Rattle.std.specs.Prelude.{ℕ, ◌≤◌, List, length, vec_capacity}
use Rattle.hm_rules.specs.Switch.{AbstractSwitch}
use Rattle.hm_schedule.specs.Limits.{max_events}
use Rattle.hm_switch.specs.State.{SwitchState}
use Rattle.hm_switch.specs.StandsFor.{StandsFor}
use Rattle.hm_world.specs.declared.slotted.SlottedSwitch.TheInside.{Inside}
use Rattle.hm_world.specs.Slotted.{Seen}

-- the rules' switch that numbered writes of these objects
abbrev pub abstract_of : SwitchState → List ℕ → AbstractSwitch
abstract_of s numbered =
    record { id = s.id; numbered = numbered; point = s.dirty.point; stamped = s.stamped; handled = s.handled; route = s.route; stages = s.dirty.stages; life = s.life }

abbrev pub seen_of : Inside → Seen
seen_of s = record { switch = abstract_of s.switch s.numbered.items; table = s.switch.dirty }

pub record IsKept (s : Inside) : Type 0 where
  pub stands : StandsFor s.switch (abstract_of s.switch s.numbered.items)
  pub few : length s.numbered.items ≤ s.switch.handled
  pub room : max_events ≤ vec_capacity s.numbered
