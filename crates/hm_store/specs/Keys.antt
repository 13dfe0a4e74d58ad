-- What contracts see of a list of keys, and what a search in it answers.
use Rattle.std.specs.Prelude.{◌≡◌, ℕ, ◌<◌, ◌≤◌, List, Option, Some, None, get_or, IfSome, IsSomeAnd}

-- the list, with nothing at some places, and how long it may be
pub record Keys : Type 0 where
  pub items : List (Option ℕ)
  pub cap : ℕ

-- the key at a place, and nothing where there is no such place
abbrev pub key_at : List (Option ℕ) → ℕ → Option ℕ
key_at items i = get_or items i None

-- the answer is the greatest place below the end that has the key, and none where no such place has it
pub record IsLastPlace (items : List (Option ℕ)) (key end : ℕ) (answer : Option ℕ) : Type 0 where
  pub found : IfSome answer (λ place. (place < end) × (key_at items place ≡ Some key))
  pub greatest : (i : ℕ) → i < end → key_at items i ≡ Some key → IsSomeAnd answer (λ place. i ≤ place)
