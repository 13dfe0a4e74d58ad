-- The members beside one of a list, found place by place.
use Rattle.std.proofs.Common.{◌≡◌, ℕ, zero, suc, ◌+◌, Bool, true, false, if◌then◌else◌, eqb, List, [], ◌∷◌, drop, Option, Some, refl, sym, ap, ◌∙◌, add-one}
use Rattle.std.specs.Prelude.{slice_get}
use Rattle.std.specs.Option.{option_eq}
use Rattle.std.proofs.lemmas.Bool.{false≢true}
use Rattle.hm_rules.specs.Chain.{first_of, next_in, before_in}

first_is : (xs : List ℕ) → slice_get xs 0 ≡ first_of xs
first_is [] = refl
first_is (x ∷ xs) = refl

behind_it : (xs : List ℕ) (i me : ℕ) → option_eq eqb (slice_get xs i) (Some me) ≡ true → slice_get xs (suc i) ≡ next_in me (drop i xs)
behind_it [] i me here = absurd (false≢true here)
behind_it (x ∷ xs) zero me here = first_is xs ∙ ap (λ (b : Bool). if b then first_of xs else next_in me xs) (sym here)
behind_it (x ∷ xs) (suc i) me here = behind_it xs i me here

pub next_here : (xs : List ℕ) (i me : ℕ) → option_eq eqb (slice_get xs i) (Some me) ≡ true → slice_get xs (i + 1) ≡ next_in me (drop i xs)
next_here xs i me here = rw add-one (behind_it xs i me here)

behind_rest : (xs : List ℕ) (i me : ℕ) → option_eq eqb (slice_get xs i) (Some me) ≡ false → next_in me (drop i xs) ≡ next_in me (drop (suc i) xs)
behind_rest [] zero me other = refl
behind_rest [] (suc i) me other = refl
behind_rest (x ∷ xs) zero me other = ap (λ (b : Bool). if b then first_of xs else next_in me xs) other
behind_rest (x ∷ xs) (suc i) me other = behind_rest xs i me other

pub next_later : (xs : List ℕ) (i me : ℕ) → option_eq eqb (slice_get xs i) (Some me) ≡ false → next_in me (drop i xs) ≡ next_in me (drop (i + 1) xs)
next_later xs i me other = rw add-one (behind_rest xs i me other)

pub before_here : (xs : List ℕ) (i me : ℕ) (before : Option ℕ) → option_eq eqb (slice_get xs i) (Some me) ≡ true → before ≡ before_in me before (drop i xs)
before_here [] i me before here = absurd (false≢true here)
before_here (x ∷ xs) zero me before here = ap (λ (b : Bool). if b then before else before_in me (Some x) xs) (sym here)
before_here (x ∷ xs) (suc i) me before here = before_here xs i me before here

before_rest : (xs : List ℕ) (i me : ℕ) (before : Option ℕ) → option_eq eqb (slice_get xs i) (Some me) ≡ false → before_in me before (drop i xs) ≡ before_in me (slice_get xs i) (drop (suc i) xs)
before_rest [] zero me before other = refl
before_rest [] (suc i) me before other = refl
before_rest (x ∷ xs) zero me before other = ap (λ (b : Bool). if b then before else before_in me (Some x) xs) other
before_rest (x ∷ xs) (suc i) me before other = before_rest xs i me before other

pub before_later : (xs : List ℕ) (i me : ℕ) (before : Option ℕ) → option_eq eqb (slice_get xs i) (Some me) ≡ false → before_in me before (drop i xs) ≡ before_in me (slice_get xs i) (drop (i + 1) xs)
before_later xs i me before other = rw add-one (before_rest xs i me before other)
