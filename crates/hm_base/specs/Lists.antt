-- Words on lists: prefixes, slices and membership.
use Rattle.std.specs.Prelude.{◌≡◌, ℕ, List, ◌∷◌, ◌++◌, length}

-- the second list begins with the first
pub record IsPrefix {A : Type 0} (front whole : List A) : Type 0 where
  pub rest : List A
  pub parts : front ++ rest ≡ whole

-- the part stands in the whole from that place on
pub record IsSlice {A : Type 0} (first : ℕ) (part whole : List A) : Type 0 where
  pub before : List A
  pub after : List A
  pub place : length before ≡ first
  pub parts : before ++ (part ++ after) ≡ whole

-- the item stands in the list
pub record IsIn {A : Type 0} (item : A) (whole : List A) : Type 0 where
  pub before : List A
  pub after : List A
  pub parts : before ++ (item ∷ after) ≡ whole
