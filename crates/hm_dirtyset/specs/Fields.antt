-- What holds of a dirty set's fields.
use Rattle.std.specs.Prelude.{◌≡◌, ℕ, ◌*◌, ◌^◌, ◌<◌, ◌≤◌, true, Some, length}
use Rattle.hm_base.specs.Slots.{Kept, Slots, place, has_live}
use Rattle.hm_dirtyset.specs.declared.dirty_set.DirtySet.TheInside.{Inside}
use Rattle.hm_dirtyset.specs.Table.{Table, slots_in}
use Rattle.hm_dirtyset.specs.ByNumber.{IsByNumber, number_at, filled_count}

abbrev pub table_of : Inside → Table
table_of d = record { stages = d.stages; bits = d.bits; held = d.slots.items; point = d.point; greatest = d.greatest }

-- an object is live in one stage at most
pub record IsSingle (slots : Slots) (point : ℕ) : Type 0 where
  pub one : (object s t : ℕ) → s < slots.stages → t < slots.stages → has_live slots point object s ≡ true → has_live slots point object t ≡ true → s ≡ t

-- what is kept stands at its object's own place
pub record IsPlaced (slots : Slots) : Type 0 where
  pub own : (stage at : ℕ) (kept : Kept) → slots.kept stage at ≡ Some kept → at ≡ place slots.bits stage kept.object

pub record IsSound (d : Inside) : Type 0 where
  pub some : 1 ≤ d.stages
  pub few : d.stages ≤ 4
  pub bits : d.bits ≤ 12
  pub slots : length d.slots.items ≡ d.stages * 2 ^ d.bits
  pub cells : d.by_number.cells ≡ d.stages * 2 ^ d.bits
  pub listed : IsByNumber d.slots.items d.by_number.items
  pub counted : d.live ≡ filled_count d.slots.items
  -- what a slot holds is live, and no number is above the greatest
  pub live : (at : ℕ) → 0 < number_at d.slots.items at → d.point < number_at d.slots.items at
  pub newest : (at : ℕ) → number_at d.slots.items at ≤ d.greatest
  pub single : IsSingle (slots_in d.stages d.bits d.slots.items) d.point
  pub placed : IsPlaced (slots_in d.stages d.bits d.slots.items)
