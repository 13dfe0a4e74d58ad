-- What contracts see of a world, and what holds of it.
use Rattle.std.specs.Prelude.{ℕ, List, map}
use Rattle.hm_group_laws.specs.Groups.{IsSound}
use Rattle.hm_dirtyset.specs.Table.{Table, slots_of}
use Rattle.hm_rules.specs.Runs.{Slotted}
use Rattle.hm_rules.specs.World as rule
use Rattle.hm_world.specs.Running.{tables_in}
use Rattle.hm_world.specs.StateFields as state
use Rattle.hm_world.specs.declared.world.World.TheInside.{Inside}

-- the rules' world, how many events were answered, and the dirty table of each switch
pub record Held : Type 0 where
  pub world : rule.World
  pub events : ℕ
  pub tables : List Table

-- the rules' world with the slots of its switches
abbrev pub with_slots : Held → Slotted
with_slots h = record { world = h.world; slots = map slots_of h.tables }

abbrev pub held_of : Inside → Held
held_of w = record { world = state.world_of w.state; events = w.state.events; tables = tables_in w.state.switches }

pub record IsKept (w : Inside) : Type 0 where
  pub sound : IsSound (state.world_of w.state)
  pub state : state.IsKept w.state
