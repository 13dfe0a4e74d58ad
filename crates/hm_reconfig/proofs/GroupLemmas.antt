-- The members of a group: numbers in a row, and a rising list without one of its numbers.
use Rattle.std.proofs.Common.{◌≡◌, ℕ, zero, suc, ◌+◌, ◌<◌, Bool, true, false, List, [], ◌∷◌, ◌++◌, length, take, get_or, refl, sym, ap, subst, add-one, ◌∙◌, arith, inl, inr}
use Rattle.std.specs.Prelude.{All, filter, not, ◌==◌, ◌||◌, nat_eq, cond}
use Rattle.std.specs.List.Sorted.{IsStrictlyIncreasing}
use Rattle.std.proofs.lemmas.Bool.{cases_Bool, false≢true}
use Rattle.std.proofs.lemmas.List.{get_or-take, length-take}
use Rattle.std.proofs.lemmas.List.Elements.{All-nil, All-cons, All-filter, All-from_get_or}
use Rattle.std.proofs.lemmas.List.Filters.{length-filter_both}
use Rattle.std.proofs.lemmas.List.Kept.{AllPairs-from_increasing}
use Rattle.hm_rules.specs.Numbers.{numbers_from, stands_in}

push_from : (first n last : ℕ) → first + n ≡ last → numbers_from first (suc n) ≡ numbers_from first n ++ last ∷ []
push_from first zero last sum = ap (λ (k : ℕ). k ∷ []) (omega (arith, sum))
push_from first (suc n) last sum = ap (λ (l : List ℕ). first ∷ l) (push_from (first + 1) n last (omega (arith, sum)))

below_from : (first n last : ℕ) → first + n ≡ last → All (λ (m : ℕ). m < last) (numbers_from first n)
below_from first zero last sum = All-nil (λ (m : ℕ). m < last)
below_from first (suc n) last sum = All-cons (λ (m : ℕ). m < last) first (numbers_from (first + 1) n) (omega (arith, sum)) (below_from (first + 1) n last (omega (arith, sum)))

-- the numbers from 0 on
pub numbers_push : (n : ℕ) → numbers_from 0 (n + 1) ≡ numbers_from 0 n ++ n ∷ []
numbers_push n = ap (numbers_from 0) (add-one n) ∙ push_from 0 n n (omega arith)

pub numbers_below : (n : ℕ) → All (λ (m : ℕ). m < n) (numbers_from 0 n)
numbers_below n = below_from 0 n n (omega arith)

drops : (a : ℕ) (xs : List ℕ) (x : ℕ) → nat_eq a x ≡ true → filter (λ m. not (m == x)) (a ∷ xs) ≡ filter (λ m. not (m == x)) xs
drops a xs x is = ap (λ (b : Bool). cond (not b) (a ∷ filter (λ m. not (m == x)) xs) (filter (λ m. not (m == x)) xs)) is

keeps : (a : ℕ) (xs : List ℕ) (x : ℕ) → nat_eq a x ≡ false → filter (λ m. not (m == x)) (a ∷ xs) ≡ a ∷ filter (λ m. not (m == x)) xs
keeps a xs x other = ap (λ (b : Bool). cond (not b) (a ∷ filter (λ m. not (m == x)) xs) (filter (λ m. not (m == x)) xs)) other

-- the numbers before a place of a rising list are below the one there
pub earlier_below : (p : ℕ → Bool) (xs members kept : List ℕ) (i : ℕ) → xs ≡ members → kept ≡ filter p (take i members) → IsStrictlyIncreasing xs → i < length xs → All (λ (m : ℕ). m < get_or xs i 0) kept
earlier_below p xs members kept i same is rising less =
    subst (λ (l : List ℕ). All (λ (m : ℕ). m < get_or xs i 0) l) (ap (λ (l : List ℕ). filter p (take i l)) same ∙ sym is)
    (All-filter p (λ (m : ℕ). m < get_or xs i 0) (take i xs) (All-from_get_or (λ (m : ℕ). m < get_or xs i 0) (take i xs) 0 (λ k l.
    let at : k < i = omega (arith, length-take i xs, l) in
    let both : get_or xs k 0 < get_or xs i 0 = AllPairs-from_increasing xs rising k i 0 at less in
    let same : get_or (take i xs) k 0 ≡ get_or xs k 0 = get_or-take i xs k 0 at in
    omega arith)))

abbrev without : ℕ → List ℕ → List ℕ
without x xs = filter (λ m. not (m == x)) xs

-- without one of its numbers a list is shorter
pub shorter : (xs : List ℕ) (x : ℕ) → stands_in x xs ≡ true → length (filter (λ m. not (m == x)) xs) < length xs
shorter [] x there = absurd (false≢true there)
shorter (a ∷ xs) x there = elim (cases_Bool (nat_eq a x)) [
  | inl first ↦
      let none : without x (a ∷ xs) ≡ without x xs = drops a xs x first in
      let all : length (without x xs) + length (filter (λ m. not (not (m == x))) xs) ≡ length xs = length-filter_both (λ m. not (m == x)) (λ m. not (not (m == x))) (λ m. refl) xs in
      omega (arith, ap (λ (l : List ℕ). length l) none)
  | inr other ↦
      let kept : without x (a ∷ xs) ≡ a ∷ without x xs = keeps a xs x other in
      let later : stands_in x xs ≡ true = sym (ap (λ (b : Bool). b || stands_in x xs) other) ∙ there in
      let rest : length (without x xs) < length xs = shorter xs x later in
      omega (arith, ap (λ (l : List ℕ). length l) kept)
]
