-- Laws of numbered writes.
use Rattle.std.proofs.Common.{◌≡◌, ◌≢◌, ℕ, zero, suc, ◌+◌, ◌<◌, ◌≤◌, Bool, true, false, List, [], ◌∷◌, ◌++◌, length, drop, Option, Some, None, refl, sym, ap, ◌∙◌, subst, inl, inr, arith}
use Rattle.std.specs.Prelude.{◌==◌, ◌||◌, nat_lt, if◌then◌else◌, is_some}
use Rattle.std.specs.List.{AllByRecursion}
use Rattle.std.proofs.lemmas.Bool.{cases_Bool, cases_eq, false≢true, eqb-true, eq-eqb, ne_eqb, lt-ltb, le-ltb, cond-true, cond-false, cond_both}
use Rattle.hm_base.specs.Slots.{or_else}
use Rattle.hm_rules.specs.Numbers.{stands_in, count_distinct}
use Rattle.hm_dirtyset.specs.Table.{number_above, AreOthers}
use Rattle.hm_switch.specs.StandsFor.{last_number}

pub equal_turned : (a b : ℕ) → (a == b) ≡ (b == a)
equal_turned a b = elim (cases_eq a b) [
  | inl same ↦ eq-eqb a b same ∙ sym (eq-eqb b a (sym same))
  | inr other ↦ ne_eqb a b other ∙ sym (ne_eqb b a (λ e. other (sym e)))
]

or_turned : (a b : Bool) → (a || b) ≡ (b || a)
or_turned true true = refl
or_turned true false = refl
or_turned false true = refl
or_turned false false = refl

or_some : (a b : Option ℕ) → is_some (or_else a b) ≡ (is_some a || is_some b)
or_some None b = refl
or_some (Some n) b = refl

some_if : (b : Bool) (n : ℕ) → is_some (if b then Some n else None) ≡ b
some_if true n = refl
some_if false n = refl

pub last_some : (first object : ℕ) (xs : List ℕ) → is_some (last_number first object xs) ≡ stands_in object xs
last_some first object [] = refl
last_some first object (x ∷ xs) =
    or_some (last_number (first + 1) object xs) (if x == object then Some first else None)
    ∙ ap (λ (b : Bool). b || is_some (if x == object then Some first else None)) (last_some (first + 1) object xs)
    ∙ ap (λ (b : Bool). stands_in object xs || b) (some_if (x == object) first)
    ∙ or_turned (stands_in object xs) (x == object)

pub last-push : (first object : ℕ) (xs : List ℕ) (x : ℕ) → last_number first object (xs ++ x ∷ []) ≡ (if x == object then Some (first + length xs) else last_number first object xs)
last-push first object [] x = ap (λ (n : ℕ). if x == object then Some n else None) (let e : first ≡ first + 0 = omega arith in e)
last-push first object (y ∷ ys) x =
    let next : first + 1 + length ys ≡ first + length (y ∷ ys) = omega arith in
    let own : Option ℕ = if y == object then Some first else None in
    ap (λ (o : Option ℕ). or_else o own) (last-push (first + 1) object ys x)
    ∙ elim (cases_Bool (x == object)) [
      | inl is ↦
          ap (λ (b : Bool). or_else (if b then Some (first + 1 + length ys) else last_number (first + 1) object ys) own) is
          ∙ ap (λ (n : ℕ). Some n) next
          ∙ sym (cond-true (x == object) (Some (first + length (y ∷ ys))) (or_else (last_number (first + 1) object ys) own) is)
      | inr not ↦
          ap (λ (b : Bool). or_else (if b then Some (first + 1 + length ys) else last_number (first + 1) object ys) own) not
          ∙ sym (cond-false (x == object) (Some (first + length (y ∷ ys))) (or_else (last_number (first + 1) object ys) own) not)
    ]

above_or : (p : ℕ) (a b : Option ℕ) → number_above p b ≡ b → number_above p a ≡ a → number_above p (or_else a b) ≡ or_else a b
above_or p None b h k = h
above_or p (Some n) b h k = k

above_if : (p n : ℕ) (b : Bool) → p < n → number_above p (if b then Some n else None) ≡ (if b then Some n else None)
above_if p n true lt = cond-true (nat_lt p n) (Some n) None (lt-ltb p n lt)
above_if p n false lt = refl

above_all : (p first object : ℕ) (xs : List ℕ) → p < first → number_above p (last_number first object xs) ≡ last_number first object xs
above_all p first object [] lt = refl
above_all p first object (x ∷ xs) lt =
    above_or p (last_number (first + 1) object xs) (if x == object then Some first else None) (above_if p first (x == object) lt) (above_all p (first + 1) object xs (omega arith))

none_if : (p n : ℕ) (b : Bool) → n ≤ p → number_above p (if b then Some n else None) ≡ None
none_if p n true le = cond-false (nat_lt p n) (Some n) None (le-ltb p n le)
none_if p n false le = refl

above_only : (p : ℕ) (a b : Option ℕ) → number_above p b ≡ None → number_above p (or_else a b) ≡ number_above p a
above_only p None b h = h
above_only p (Some n) b h = refl

-- the point rises by k
pub last-drop : (point k object : ℕ) (xs : List ℕ) → last_number (point + k + 1) object (drop k xs) ≡ number_above (point + k) (last_number (point + 1) object xs)
last-drop point zero object xs =
    let same : point + 0 + 1 ≡ point + 1 = omega arith in
    ap (λ (n : ℕ). last_number n object xs) same ∙ sym (above_all (point + 0) (point + 1) object xs (omega arith))
last-drop point (suc k) object [] = refl
last-drop point (suc k) object (x ∷ xs) =
    let next : point + suc k + 1 ≡ point + 1 + k + 1 = omega arith in
    let same : point + 1 + k ≡ point + suc k = omega arith in
    ap (λ (n : ℕ). last_number n object (drop k xs)) next
    ∙ last-drop (point + 1) k object xs
    ∙ ap (λ (n : ℕ). number_above n (last_number (point + 1 + 1) object xs)) same
    ∙ sym (above_only (point + suc k) (last_number (point + 1 + 1) object xs) (if x == object then Some (point + 1) else None) (none_if (point + suc k) (point + 1) (x == object) (omega arith)))

pub drop_twice : (p k : ℕ) (xs : List ℕ) → drop k (drop p xs) ≡ drop (p + k) xs
drop_twice zero k xs = ap (λ (n : ℕ). drop n xs) (let e : k ≡ 0 + k = omega arith in e)
drop_twice (suc p) zero [] = let e : suc p + 0 ≡ suc p = omega arith in sym (ap (λ (n : ℕ). drop n []) e)
drop_twice (suc p) (suc k) [] = let e : suc p + suc k ≡ suc (p + suc k) = omega arith in sym (ap (λ (n : ℕ). drop n []) e)
drop_twice (suc p) k (x ∷ xs) = let e : suc p + k ≡ suc (p + k) = omega arith in drop_twice p k xs ∙ sym (ap (λ (n : ℕ). drop n (x ∷ xs)) e)

-- ---- how many different numbers there are

abbrev without : ℕ → List ℕ → List ℕ
without x [] = []
without x (o ∷ os) = if o == x then os else o ∷ without x os

length-without : (x : ℕ) (os : List ℕ) → length os ≤ length (without x os) + 1
length-without x [] = omega arith
length-without x (o ∷ os) = cond_both (o == x) os (o ∷ without x os) (λ (l : List ℕ). length (o ∷ os) ≤ length l + 1) (λ is. omega arith) (λ not. omega (arith, length-without x os))

all_without : (P : ℕ → Type 0) (x : ℕ) (os : List ℕ) → AllByRecursion P os → AllByRecursion P (without x os)
all_without P x [] h = tt
all_without P x (o ∷ os) h = cond_both (o == x) os (o ∷ without x os) (AllByRecursion P) (λ is. h.1) (λ not. (h.0, all_without P x os h.1))

others_without : (object x : ℕ) (os : List ℕ) → AreOthers object os → AreOthers object (without x os)
others_without object x [] h = tt
others_without object x (o ∷ os) h = cond_both (o == x) os (o ∷ without x os) (AreOthers object) (λ is. h.2) (λ not. (h.0, all_without (λ other. o ≢ other) x os h.1, others_without object x os h.2))

-- those that are left stand in the rest
rest_apart : (x : ℕ) (xs os : List ℕ) → AllByRecursion (λ o. x ≢ o) os → AllByRecursion (λ o. stands_in o (x ∷ xs) ≡ true) os → AllByRecursion (λ o. stands_in o xs ≡ true) os
rest_apart x xs [] a h = tt
rest_apart x xs (o ∷ os) a h =
    (sym (ap (λ (b : Bool). b || stands_in o xs) (ne_eqb x o a.0)) ∙ h.0, rest_apart x xs os a.1 h.1)

stand_without : (object x : ℕ) (xs os : List ℕ) → AreOthers object os → AllByRecursion (λ o. stands_in o (x ∷ xs) ≡ true) os → AllByRecursion (λ o. stands_in o xs ≡ true) (without x os)
stand_without object x xs [] h s = tt
stand_without object x xs (o ∷ os) h s = elim (cases_Bool (o == x)) [
  | inl is ↦ subst (λ (l : List ℕ). AllByRecursion (λ o. stands_in o xs ≡ true) l) (sym (cond-true (o == x) os (o ∷ without x os) is))
      (rest_apart x xs os (subst (λ (k : ℕ). AllByRecursion (λ other. k ≢ other) os) (eqb-true o x is) h.1) s.1)
  | inr not ↦ subst (λ (l : List ℕ). AllByRecursion (λ o. stands_in o xs ≡ true) l) (sym (cond-false (o == x) os (o ∷ without x os) not))
      (sym (ap (λ (b : Bool). b || stands_in o xs) (equal_turned x o ∙ not)) ∙ s.0, stand_without object x xs os h.2 s.1)
]

all_stand : (x : ℕ) (xs os : List ℕ) → stands_in x xs ≡ true → AllByRecursion (λ o. stands_in o (x ∷ xs) ≡ true) os → AllByRecursion (λ o. stands_in o xs ≡ true) os
all_stand x xs [] is h = tt
all_stand x xs (o ∷ os) is h = (
  elim (cases_eq x o) [
    | inl same ↦ ap (λ (k : ℕ). stands_in k xs) (sym same) ∙ is
    | inr other ↦ sym (ap (λ (b : Bool). b || stands_in o xs) (ne_eqb x o other)) ∙ h.0
  ],
  all_stand x xs os is h.1,
)

-- others that all stand in the list are at most as many as there are different numbers in it
pub others_few : (object : ℕ) (xs os : List ℕ) → AreOthers object os → AllByRecursion (λ o. stands_in o xs ≡ true) os → length os ≤ count_distinct xs
others_few object [] [] h s = omega arith
others_few object [] (o ∷ os) h s = absurd (false≢true s.0)
others_few object (x ∷ xs) os h s = elim (cases_Bool (stands_in x xs)) [
  | inl is ↦
      let e : count_distinct (x ∷ xs) ≡ count_distinct xs = cond-true (stands_in x xs) (count_distinct xs) (count_distinct xs + 1) is in
      omega (arith, others_few object xs os h (all_stand x xs os is s))
  | inr not ↦
      let e : count_distinct (x ∷ xs) ≡ count_distinct xs + 1 = cond-false (stands_in x xs) (count_distinct xs) (count_distinct xs + 1) not in
      omega (arith, length-without x os, others_few object xs (without x os) (others_without object x os h) (stand_without object x xs os h s))
]
