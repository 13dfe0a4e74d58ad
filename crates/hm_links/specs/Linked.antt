-- What contracts see of a linked list.
use Rattle.std.specs.Prelude.{ℕ, Bool, not, ◌==◌, List}
use Rattle.std.specs.List.{list_any, filter}

-- the indices in the list, front first, and the number that all indices are below
pub record Linked : Type 0 where
  pub items : List ℕ
  pub cells : ℕ

abbrev pub is_linked : ℕ → List ℕ → Bool
is_linked i items = list_any (λ other. other == i) items

-- the list without an index
abbrev pub others : ℕ → List ℕ → List ℕ
others i items = filter (λ other. not (other == i)) items
