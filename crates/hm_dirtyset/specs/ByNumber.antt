-- How the slots that hold a number are linked.
use Rattle.std.specs.Prelude.{◌≡◌, ℕ, ◌<◌, nat_lt, List, [], ◌∷◌, slice_get, Option, Some, None}
use Rattle.std.specs.List.{AllByRecursion, count_by}
use Rattle.hm_links.specs.Linked.{is_linked}
use Rattle.hm_dirtyset.specs.declared.slot.Slot.{Slot}

-- the number that a slot holds, 0 for none
abbrev pub number_held : Option Slot → ℕ
number_held None = 0
number_held (Some slot) = slot.number

abbrev pub number_at : List Slot → ℕ → ℕ
number_at held at = number_held (slice_get held at)

abbrev pub filled_count : List Slot → ℕ
filled_count held = count_by (λ slot. nat_lt 0 slot.number) held

-- each of a list has a lower number than those behind it
abbrev pub IsRising : (ℕ → ℕ) → List ℕ → Type 0
IsRising number [] = Unit {0}
IsRising number (x ∷ xs) = AllByRecursion (λ y. number x < number y) xs × IsRising number xs

-- just what has a number is in the list, by rising number
pub record IsInOrder (number : ℕ → ℕ) (items : List ℕ) : Type 0 where
  pub linked : (at : ℕ) → is_linked at items ≡ nat_lt 0 (number at)
  pub rising : IsRising number items

-- a slot is free exactly where it isn't in the list, and the list goes by rising number
abbrev pub IsByNumber : List Slot → List ℕ → Type 0
IsByNumber held items = IsInOrder (number_at held) items
