-- Numbers kept as marks: whether one is among them, and one more.
use Rattle.std.proofs.Common.{◌≡◌, ℕ, zero, suc, ◌+◌, ◌<◌, ◌≤◌, Bool, true, false, List, [], ◌∷◌, length, drop, get_or, Some, None, refl, sym, ap, add-one, ◌∙◌, arith, inl, inr}
use Rattle.std.specs.Prelude.{All, find, nat_eq, ◌||◌, set, if◌then◌else◌}
use Rattle.std.proofs.lemmas.Bool.{cases_Bool, false≢true, eqb-true, eq-eqb, ne_eqb, lt-ltb, le-ltb}
use Rattle.std.proofs.lemmas.List.Elements.{All-head, All-tail}
use Rattle.hm_rules.specs.Numbers.{stands_in, with_number}
use Rattle.hm_reconfig.specs.Marks.{marked_from}

-- a number below the first is not among them
below_stands : (marks : List Bool) (first n : ℕ) → n < first → stands_in n (marked_from first marks) ≡ false
below_stands [] first n less = refl
below_stands (false ∷ marks) first n less = below_stands marks (first + 1) n (omega (arith, less))
below_stands (true ∷ marks) first n less =
    ap (λ (b : Bool). b || stands_in n (marked_from (first + 1) marks)) (ne_eqb first n (λ same. omega (arith, same, less)))
    ∙ below_stands marks (first + 1) n (omega (arith, less))

-- a number below the first goes in front
below_with : (marks : List Bool) (first n : ℕ) → n < first → with_number n (marked_from first marks) ≡ n ∷ marked_from first marks
below_with [] first n less = refl
below_with (false ∷ marks) first n less = below_with marks (first + 1) n (omega (arith, less))
below_with (true ∷ marks) first n less =
    ap (λ (b : Bool). if b then n ∷ first ∷ marked_from (first + 1) marks else first ∷ with_number n (marked_from (first + 1) marks)) (lt-ltb n first less)

pub stands_at : (marks : List Bool) (first k n : ℕ) → first + k ≡ n → stands_in n (marked_from first marks) ≡ get_or marks k false
stands_at [] first k n sum = refl
stands_at (false ∷ marks) first zero n sum = below_stands marks (first + 1) n (omega (arith, sum))
stands_at (true ∷ marks) first zero n sum =
    ap (λ (b : Bool). b || stands_in n (marked_from (first + 1) marks)) (eq-eqb first n (omega (arith, sum)))
stands_at (false ∷ marks) first (suc k) n sum = stands_at marks (first + 1) k n (omega (arith, sum))
stands_at (true ∷ marks) first (suc k) n sum =
    ap (λ (b : Bool). b || stands_in n (marked_from (first + 1) marks)) (ne_eqb first n (λ same. omega (arith, same, sum)))
    ∙ stands_at marks (first + 1) k n (omega (arith, sum))

pub with_at : (marks : List Bool) (first k n : ℕ) → first + k ≡ n → k < length marks → get_or marks k false ≡ false → marked_from first (set marks k true) ≡ with_number n (marked_from first marks)
with_at [] first k n sum less fresh = absurd (omega (arith, less))
with_at (false ∷ marks) first zero n sum less fresh =
    ap (λ (m : ℕ). m ∷ marked_from (first + 1) marks) (omega (arith, sum)) ∙ sym (below_with marks (first + 1) n (omega (arith, sum)))
with_at (true ∷ marks) first zero n sum less fresh = absurd (false≢true (sym fresh))
with_at (false ∷ marks) first (suc k) n sum less fresh = with_at marks (first + 1) k n (omega (arith, sum)) (omega (arith, less)) fresh
with_at (true ∷ marks) first (suc k) n sum less fresh =
    ap (λ (l : List ℕ). first ∷ l) (with_at marks (first + 1) k n (omega (arith, sum)) (omega (arith, less)) fresh)
    ∙ sym (ap (λ (b : Bool). if b then n ∷ first ∷ marked_from (first + 1) marks else first ∷ with_number n (marked_from (first + 1) marks)) (le-ltb n first (omega (arith, sum))))

-- ---- the first that passes a test

pub find_here : (p : ℕ → Bool) (xs : List ℕ) (i : ℕ) → i < length xs → p (get_or xs i 0) ≡ true → find p (drop i xs) ≡ Some (get_or xs i 0)
find_here p [] i less passes = absurd (omega (arith, less))
find_here p (x ∷ xs) zero less passes = ap (λ (b : Bool). if b then Some x else find p xs) passes
find_here p (x ∷ xs) (suc i) less passes = find_here p xs i (omega (arith, less)) passes

find_suc : (p : ℕ → Bool) (xs : List ℕ) (i : ℕ) → i < length xs → p (get_or xs i 0) ≡ false → find p (drop i xs) ≡ find p (drop (suc i) xs)
find_suc p [] i less fails = absurd (omega (arith, less))
find_suc p (x ∷ xs) zero less fails = ap (λ (b : Bool). if b then Some x else find p xs) fails
find_suc p (x ∷ xs) (suc i) less fails = find_suc p xs i (omega (arith, less)) fails

pub find_later : (p : ℕ → Bool) (xs : List ℕ) (i : ℕ) → i < length xs → p (get_or xs i 0) ≡ false → find p (drop i xs) ≡ find p (drop (i + 1) xs)
find_later p xs i less fails = find_suc p xs i less fails ∙ ap (λ (k : ℕ). find p (drop k xs)) (sym (add-one i))

pub find_past : (p : ℕ → Bool) (xs : List ℕ) (i : ℕ) → length xs ≤ i → find p (drop i xs) ≡ None
find_past p [] zero past = refl
find_past p [] (suc i) past = refl
find_past p (x ∷ xs) zero past = absurd (omega (arith, past))
find_past p (x ∷ xs) (suc i) past = find_past p xs i (omega (arith, past))

-- what holds of each holds of one of them
pub stands_within : (xs : List ℕ) (n : ℕ) → stands_in n xs ≡ true → All (λ (m : ℕ). m ≤ 6) xs → n ≤ 6
stands_within [] n there each = absurd (false≢true there)
stands_within (x ∷ xs) n there each = elim (cases_Bool (nat_eq x n)) [
  | inl here ↦ let first : x ≤ 6 = All-head (λ (m : ℕ). m ≤ 6) x xs each in omega (arith, eqb-true x n here, first)
  | inr other ↦ stands_within xs n (sym (ap (λ (b : Bool). b || stands_in n xs) other) ∙ there) (All-tail (λ (m : ℕ). m ≤ 6) x xs each)
]
