-- What contracts see of a dirty set.
use Rattle.std.specs.Prelude.{◌≡◌, ◌≢◌, ℕ, ◌+◌, ◌*◌, ◌^◌, ◌==◌, ◌&&◌, not, nat_lt, nat_le, true, if◌then◌else◌, List, [], ◌∷◌, length, slice_get, Option, Some, None, option_map, is_some}
use Rattle.std.specs.List.{AllByRecursion, list_any}
use Rattle.hm_base.specs.Slots.{Kept, Slots, live_slots, slot_of, live_stage}
use Rattle.hm_dirtyset.specs.declared.dirty_set.TheConstants.{MAX_STAGES, MAX_BITS}
use Rattle.hm_dirtyset.specs.declared.slot.Slot.{Slot}
use Rattle.hm_dirtyset.specs.declared.dirty_set.OpenFault.{OpenFault}
use Rattle.hm_dirtyset.specs.declared.dirty_set.OpenFault.TheVariants as fault

-- the slots, stage behind stage, the point, and the greatest number put
pub record Table : Type 0 where
  pub stages : ℕ
  pub bits : ℕ
  pub held : List Slot
  pub point : ℕ
  pub greatest : ℕ

abbrev pub slot_index : ℕ → ℕ → ℕ → ℕ
slot_index bits stage at = stage * 2 ^ bits + at

-- what a slot holds: no write has the number 0
abbrev pub kept_of : Option Slot → Option Kept
kept_of None = None
kept_of (Some slot) = if slot.number == 0 then None else Some (record { object = slot.object; number = slot.number })

abbrev pub kept_in : ℕ → ℕ → List Slot → ℕ → ℕ → Option Kept
kept_in stages bits held stage at =
    if nat_lt stage stages && nat_lt at (2 ^ bits) then kept_of (slice_get held (slot_index bits stage at)) else None

-- the same by stage and place
abbrev pub slots_in : ℕ → ℕ → List Slot → Slots
slots_in stages bits held = record { stages = stages; bits = bits; kept = kept_in stages bits held }

abbrev pub held_slots : Table → Slots
held_slots table = slots_in table.stages table.bits table.held

-- the slots of the table: what is held at or below the point is none
abbrev pub slots_of : Table → Slots
slots_of table = live_slots table.point (held_slots table)

-- the number in the object's slot of a stage
abbrev pub number_in : Slots → ℕ → Option ℕ → Option ℕ
number_in slots object None = None
number_in slots object (Some stage) = option_map (λ (kept : Kept). kept.number) (slot_of slots object stage)

-- the object's number above the point, if it has one
abbrev pub number_of : Slots → ℕ → ℕ → Option ℕ
number_of slots point object = number_in slots object (live_stage slots point object)

abbrev pub live_number : Table → ℕ → Option ℕ
live_number table object = number_of (held_slots table) table.point object

-- a number, where it is above the point
abbrev pub number_above : ℕ → Option ℕ → Option ℕ
number_above point None = None
number_above point (Some number) = if nat_lt point number then Some number else None

-- each of a list is another, and none is this object
abbrev pub AreOthers : ℕ → List ℕ → Type 0
AreOthers object [] = Unit {0}
AreOthers object (o ∷ os) = (o ≢ object) × AllByRecursion (λ other. o ≢ other) os × AreOthers object os

-- the object has no live number, and as many others as there are stages have one
pub record IsCrowd (table : Table) (object : ℕ) : Type 0 where
  pub clean : live_number table object ≡ None
  pub objects : List ℕ
  pub many : length objects ≡ table.stages
  pub others : AreOthers object objects
  pub live : AllByRecursion (λ o. is_some (live_number table o) ≡ true) objects

abbrev pub AreDistinct : List ℕ → Type 0
AreDistinct [] = Unit {0}
AreDistinct (o ∷ os) = AllByRecursion (λ other. o ≢ other) os × AreDistinct os

-- so many objects have live numbers: a list has just these, each once
pub record CountsLive (table : Table) (count : ℕ) : Type 0 where
  pub objects : List ℕ
  pub many : length objects ≡ count
  pub distinct : AreDistinct objects
  pub live : (object : ℕ) → list_any (λ other. other == object) objects ≡ is_some (live_number table object)

-- the first argument of an opening that is out of its range, if any is
abbrev pub open_fault : ℕ → ℕ → Option OpenFault
open_fault stages bits =
    if not (nat_le 1 stages && nat_le stages MAX_STAGES) then Some fault.Stages
    else if not (nat_le bits MAX_BITS) then Some fault.Bits
    else None
