-- What contracts see of a switch with its dirty table.
use Rattle.std.specs.Prelude.{ℕ, Bool, false, List, [], ◌∷◌}
use Rattle.hm_base.specs.Slots.{is_full}
use Rattle.hm_packet.specs.declared.body.Body.{Body}
use Rattle.hm_packet.specs.declared.body.Body.TheVariants as body
use Rattle.hm_packet.specs.declared.turn.Turn.{Turn}
use Rattle.hm_packet.specs.declared.turn.Turn.TheVariants as turn
use Rattle.hm_rules.specs.Switch.{AbstractSwitch}
use Rattle.hm_dirtyset.specs.Table.{Table, slots_of}

pub record Seen : Type 0 where
  pub switch : AbstractSwitch
  pub table : Table

-- the slots are full for the write that is brought
abbrev pub finds_full : Seen → Body → Bool
finds_full seen (body.Write write) = is_full (slots_of seen.table) seen.switch.point write.object
finds_full seen other = false

-- the object of the write that a packet carries on with its number
abbrev pub put_in : Body → List ℕ
put_in (body.Put put) = put.object ∷ []
put_in other = []

abbrev pub put_objects : Turn → List ℕ
put_objects (turn.Sent packet) = put_in packet.body
put_objects other = []
