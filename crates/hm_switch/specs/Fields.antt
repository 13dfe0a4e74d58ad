-- What holds of a switch's fields.
use Rattle.std.specs.Prelude.{◌≤◌}
use Rattle.hm_switch.specs.declared.switch.Switch.TheInside.{Inside}
use Rattle.hm_switch.specs.declared.switch.TheConstants.{MAX_LIFE}
use Rattle.hm_switch.specs.State.{SwitchState}

abbrev pub state_of : Inside → SwitchState
state_of s = record { id = s.id; dirty = s.dirty; stamped = s.stamped; handled = s.handled; route = s.route; life = s.life }

pub record IsInBounds (s : Inside) : Type 0 where
  pub point : s.dirty.point ≤ s.dirty.greatest
  pub counter : s.dirty.greatest ≤ s.handled
  pub stamped : s.stamped ≤ s.handled
  pub handled : s.handled ≤ s.life
  pub life : s.life ≤ MAX_LIFE
