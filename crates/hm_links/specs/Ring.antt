-- How the two arrays hold the list: as a ring from the last cell through the list's indices and back.
use Rattle.std.specs.Prelude.{◌≡◌, ◌≢◌, ℕ, zero, suc, ◌+◌, ◌<◌, ◌≤◌, ◌==◌, false, if◌then◌else◌, List, [], ◌∷◌, length, slice_index}
use Rattle.std.specs.List.{AllByRecursion}
use Rattle.hm_links.specs.declared.links.Links.TheInside.{Inside}
use Rattle.hm_links.specs.declared.links.TheConstants.{MAX_CELLS}
use Rattle.hm_links.specs.Linked.{Linked, is_linked}

-- the indices from one on, up to the end, at most so many
abbrev pub walk : (ℕ → ℕ) → ℕ → ℕ → ℕ → List ℕ
walk next end at zero = []
walk next end at (suc n) = if at == end then [] else at ∷ walk next end (next at) n

-- from a cell through the indices to the end, one step at a time, and back
abbrev pub Path : (ℕ → ℕ) → (ℕ → ℕ) → ℕ → List ℕ → ℕ → Type 0
Path next previous a [] end = (next a ≡ end) × (previous end ≡ a)
Path next previous a (x ∷ xs) end = (next a ≡ x) × (previous x ≡ a) × Path next previous x xs end

-- an index stands apart from each of a list
abbrev pub IsApartFrom : ℕ → List ℕ → Type 0
IsApartFrom i items = AllByRecursion (λ other. i ≢ other) items

abbrev pub AreApart : List ℕ → Type 0
AreApart [] = Unit {0}
AreApart (x ∷ xs) = IsApartFrom x xs × AreApart xs

-- the ring of a list through these cells
pub record IsRing (next previous : List ℕ) (cells : ℕ) (items : List ℕ) : Type 0 where
  pub next_cells : length next ≡ cells + 1
  pub previous_cells : length previous ≡ cells + 1
  pub next_within : (k : ℕ) → slice_index next k ≤ cells
  pub previous_within : (k : ℕ) → slice_index previous k ≤ cells
  pub path : Path (λ k. slice_index next k) (λ k. slice_index previous k) cells items cells
  pub within : AllByRecursion (λ item. item < cells) items
  pub apart : AreApart items
  pub loose : (k : ℕ) → k < cells → is_linked k items ≡ false → slice_index next k ≡ k

abbrev pub ring_items : List ℕ → ℕ → List ℕ
ring_items next cells = walk (λ k. slice_index next k) cells (slice_index next cells) cells

abbrev pub linked_of : Inside → Linked
linked_of l = record { items = ring_items l.next.items l.cells; cells = l.cells }

pub record IsSound (l : Inside) : Type 0 where
  pub ring : IsRing l.next.items l.previous.items l.cells (ring_items l.next.items l.cells)
  pub few : l.cells ≤ MAX_CELLS
