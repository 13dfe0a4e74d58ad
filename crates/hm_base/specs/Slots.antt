-- The slots of the dirty table: a hash table of several stages, as Harmonia keeps its dirty set (Zhu and others, PVLDB 13,
-- 2019). Which slot an object has in each stage is this project's own choice.
use Rattle.std.specs.Prelude.{ℕ, zero, suc, ◌+◌, ◌-◌, ◌*◌, ◌/◌, ◌%◌, ◌^◌, Bool, false, not, ◌&&◌, ◌==◌, nat_lt, if◌then◌else◌, List, [], ◌∷◌, slice_index, Option, Some, None, is_none}

-- one for each stage
abbrev pub multipliers : List ℕ
multipliers = 2654435761 ∷ 2246822519 ∷ 3266489917 ∷ 668265263 ∷ []

-- the object's place in a stage of 2 ^ bits slots
abbrev pub place : ℕ → ℕ → ℕ → ℕ
place bits stage object = (((object + 1) * slice_index multipliers stage) % (2 ^ 32)) / (2 ^ (32 - bits))

-- what a slot holds: an object and the number of a write of it
pub record Kept : Type 0 where
  pub object : ℕ
  pub number : ℕ

-- what stands in each stage at each place, if anything
pub record Slots : Type 0 where
  pub stages : ℕ
  pub bits : ℕ
  pub kept : ℕ → ℕ → Option Kept

abbrev pub no_slots : ℕ → ℕ → Slots
no_slots stages bits = record { stages = stages; bits = bits; kept = λ stage at. None }

-- a slot is live while its number is above the point
abbrev pub is_live : ℕ → Option Kept → Bool
is_live point None = false
is_live point (Some kept) = nat_lt point kept.number

abbrev pub is_of : ℕ → Option Kept → Bool
is_of object None = false
is_of object (Some kept) = kept.object == object

-- what a slot holds where that is live
abbrev pub live_part : ℕ → Option Kept → Option Kept
live_part point None = None
live_part point (Some kept) = if nat_lt point kept.number then Some kept else None

-- pairs at or below the point are no slots
abbrev pub live_slots : ℕ → Slots → Slots
live_slots point slots = record slots { kept = λ stage at. live_part point (slots.kept stage at) }

-- the slots once the point has gone from one number to another
abbrev pub slots_raised : ℕ → ℕ → Slots → Slots
slots_raised before after slots = if nat_lt before after then live_slots after slots else slots

-- the object's slot in a stage, whatever it holds
abbrev pub slot_of : Slots → ℕ → ℕ → Option Kept
slot_of slots object stage = slots.kept stage (place slots.bits stage object)

abbrev pub is_taken : Slots → ℕ → ℕ → ℕ → Bool
is_taken slots point object stage = is_live point (slot_of slots object stage)

-- the object itself is live in that stage
abbrev pub has_live : Slots → ℕ → ℕ → ℕ → Bool
has_live slots point object stage = is_taken slots point object stage && is_of object (slot_of slots object stage)

-- the first of n stages, from this one on, that passes
abbrev pub first_stage : (ℕ → Bool) → ℕ → ℕ → Option ℕ
first_stage passes stage zero = None
first_stage passes stage (suc n) = if passes stage then Some stage else first_stage passes (stage + 1) n

-- the stage where the object is live
abbrev pub live_stage : Slots → ℕ → ℕ → Option ℕ
live_stage slots point object = first_stage (has_live slots point object) 0 slots.stages

-- the least stage where the object's slot holds nothing live
abbrev pub free_stage : Slots → ℕ → ℕ → Option ℕ
free_stage slots point object = first_stage (λ stage. not (is_taken slots point object stage)) 0 slots.stages

abbrev pub or_else : Option ℕ → Option ℕ → Option ℕ
or_else None other = other
or_else (Some stage) other = Some stage

-- where a write of the object goes
abbrev pub target : Slots → ℕ → ℕ → Option ℕ
target slots point object = or_else (live_stage slots point object) (free_stage slots point object)

-- there is no slot for a write of the object
abbrev pub is_full : Slots → ℕ → ℕ → Bool
is_full slots point object = is_none (target slots point object)

abbrev pub with_kept : Slots → ℕ → Kept → ℕ → ℕ → Option Kept
with_kept slots stage kept s at = if (s == stage) && (at == place slots.bits stage kept.object) then Some kept else slots.kept s at

abbrev pub put_in : Slots → Kept → Option ℕ → Slots
put_in slots kept None = slots
put_in slots kept (Some stage) = record slots { kept = with_kept slots stage kept }

-- the slots after a write of the object under the number; they stay where they are full for it
abbrev pub put : Slots → ℕ → ℕ → ℕ → Slots
put slots point object number = put_in slots (record { object = object; number = number }) (target slots point object)
