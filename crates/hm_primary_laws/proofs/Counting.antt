-- What a primary finds that all others hold: each of them has acknowledged so much, and no less where each has acknowledged more.
use Rattle.std.proofs.Common.{◌≡◌, ℕ, zero, suc, cond, ◌+◌, ◌<◌, ◌≤◌, Bool, true, false, List, [], ◌∷◌, length, map, max, Some, refl, sym, ap, subst, ◌∙◌, arith, inl, inr}
use Rattle.std.specs.Prelude.{not, ◌==◌, nat_eq, nat_le, filter, fold, count_by}
use Rattle.std.specs.List.{list_all}
use Rattle.std.proofs.lemmas.Bool.{cond_both, cond-true, cases_Bool, false≢true, and_parts, and_from, leb-true, leb-false, le-leb, eqb-true, eqb-false, not_from_false, ne_eqb}
use Rattle.std.proofs.lemmas.List.{length-map}
use Rattle.std.proofs.lemmas.List.Sums.{sum_by-cons, count_by-le-length}
use Rattle.std.proofs.lemmas.Option.{none-some, same_Some, slice_get_within}
use Rattle.hm_base.specs.Taking.{held_by}
use Rattle.hm_base.proofs.ListLaws.{there_is}
use Rattle.hm_order.specs.Marks.{At}
use Rattle.hm_rules.specs.Replica.{Replica, len, others, acked_by}
use Rattle.hm_rules.specs.ReplicaSteps.{quorum_len}
use Rattle.hm_rules.specs.PrimaryBackup.{is_settled}
use Rattle.hm_core_laws.specs.Epochs.{HasMember}
use Rattle.hm_core_laws.proofs.Members.{member_cases, member_filter}
use Rattle.hm_view_laws.proofs.Reached.{held_reached}

-- ---- lists

pub index_of : (ms : List ℕ) (q : ℕ) → HasMember ms q → (i : ℕ) × At ms i q
index_of [] q h = absurd (false≢true h)
index_of (m ∷ ms) q h = elim (member_cases m ms q h) [
  | inl here ↦ (0, ap (λ (k : ℕ). Some k) here)
  | inr later ↦ (let x : (i : ℕ) × At ms i q = index_of ms q later in (suc x.0, x.1))
]

at_map : (f : ℕ → ℕ) (xs : List ℕ) (i x : ℕ) → At xs i x → At (map f xs) i (f x)
at_map f [] i x a = absurd (none-some x a)
at_map f (y ∷ ys) zero x a = ap (λ (k : ℕ). Some (f k)) (same_Some y x a)
at_map f (y ∷ ys) (suc i) x a = at_map f ys i x a

at_mapped : (f : ℕ → ℕ) (P : ℕ → Type 0) (xs : List ℕ) → ((i x : ℕ) → At xs i x → P (f x)) → (i y : ℕ) → At (map f xs) i y → P y
at_mapped f P [] h i y a = absurd (none-some y a)
at_mapped f P (x ∷ xs) h zero y a = subst P (same_Some (f x) y a) (h 0 x refl)
at_mapped f P (x ∷ xs) h (suc i) y a = at_mapped f P xs (λ j z b. h (suc j) z b) i y a

at_first : (P : ℕ → Type 0) (x : ℕ) (xs : List ℕ) (i y : ℕ) → At (x ∷ xs) i y → P x → ((j : ℕ) → At xs j y → P y) → P y
at_first P x xs zero y a here later = subst P (same_Some x y a) here
at_first P x xs (suc i) y a here later = later i a

pub all_true : (p : ℕ → Bool) (xs : List ℕ) → list_all p xs ≡ true → (i x : ℕ) → At xs i x → p x ≡ true
all_true p [] t i x a = absurd (none-some x a)
all_true p (y ∷ ys) t i x a = at_first (λ (z : ℕ). p z ≡ true) y ys i x a (and_parts (p y) (list_all p ys) t).0 (λ j b. all_true p ys (and_parts (p y) (list_all p ys) t).1 j x b)

pub all_from : (p : ℕ → Bool) (xs : List ℕ) → ((i x : ℕ) → At xs i x → p x ≡ true) → list_all p xs ≡ true
all_from p [] h = refl
all_from p (y ∷ ys) h = and_from (p y) (list_all p ys) (h 0 y refl) (all_from p ys (λ i x a. h (suc i) x a))

-- ---- counts

score : Bool → ℕ
score true = 1
score false = 0

score_is : (b : Bool) → cond b 1 0 ≡ score b
unfolding score
score_is true = refl
score_is false = refl

count-cons : (p : ℕ → Bool) (y : ℕ) (ys : List ℕ) → count_by p (y ∷ ys) ≡ score (p y) + count_by p ys
count-cons p y ys = sum_by-cons (λ x. cond (p x) 1 0) y ys ∙ ap (λ (k : ℕ). k + count_by p ys) (score_is (p y))

one_most : (b : Bool) → score b ≤ 1
unfolding score
one_most true = omega arith
one_most false = omega arith

score_yes : score true ≡ 1
unfolding score
score_yes = refl

score_no : score false ≡ 0
unfolding score
score_no = refl

all_reach : (p : ℕ → Bool) (xs : List ℕ) → length xs ≤ count_by p xs → (i x : ℕ) → At xs i x → p x ≡ true
all_reach p [] l i x a = absurd (none-some x a)
all_reach p (y ∷ ys) l i x a =
    let c : count_by p (y ∷ ys) ≡ score (p y) + count_by p ys = count-cons p y ys in
    let most : count_by p ys ≤ length ys = count_by-le-length p ys in
    let one : score (p y) ≤ 1 = one_most (p y) in
    at_first (λ (z : ℕ). p z ≡ true) y ys i x a
    (elim (cases_Bool (p y)) [ inl t ↦ t | inr f ↦ absurd (let none : score (p y) ≡ 0 = ap score f ∙ score_no in omega arith) ])
    (λ j b. all_reach p ys (omega arith) j x b)

count_all : (p : ℕ → Bool) (xs : List ℕ) → ((i x : ℕ) → At xs i x → p x ≡ true) → length xs ≤ count_by p xs
count_all p [] h = omega arith
count_all p (y ∷ ys) h =
    let c : count_by p (y ∷ ys) ≡ score (p y) + count_by p ys = count-cons p y ys in
    let one : score (p y) ≡ 1 = ap score (h 0 y refl) ∙ score_yes in
    let rest : length ys ≤ count_by p ys = count_all p ys (λ i x a. h (suc i) x a) in
    omega arith

record Least (xs : List ℕ) : Type 0 where
  least : ℕ
  place : ℕ
  there : At xs place least
  below : (i x : ℕ) → At xs i x → least ≤ x

least_of : (x : ℕ) (xs : List ℕ) → Least (x ∷ xs)
least_of x [] = record { least = x; place = 0; there = refl; below = λ i y a. at_first (λ (z : ℕ). x ≤ z) x [] i y a (omega arith) (λ j b. absurd (none-some y b)) }
least_of x (z ∷ zs) =
    let l : Least (z ∷ zs) = least_of z zs in
    elim (cases_Bool (nat_le x l.least)) [
      | inl t ↦ record {
        least = x;
        place = 0;
        there = refl;
        below = λ i y a. at_first (λ (k : ℕ). x ≤ k) x (z ∷ zs) i y a (omega arith) (λ j b. let s : l.least ≤ y = l.below j y b in let u : x ≤ l.least = leb-true x l.least t in omega arith);
      }
      | inr f ↦ record {
        least = l.least;
        place = suc l.place;
        there = l.there;
        below = λ i y a. at_first (λ (k : ℕ). l.least ≤ k) x (z ∷ zs) i y a (let u : l.least < x = leb-false x l.least f in omega arith) (λ j b. l.below j y b);
      }
    ]

fold_above : (xs : List ℕ) (a : ℕ) → a ≤ fold max a xs
fold_above [] a = omega arith
fold_above (x ∷ xs) a = let l : max a x ≤ fold max (max a x) xs = fold_above xs (max a x) in omega arith

fold_reaches : (xs : List ℕ) (a i x : ℕ) → At xs i x → x ≤ fold max a xs
fold_reaches [] a i x at = absurd (none-some x at)
fold_reaches (y ∷ ys) a i x at = at_first (λ (z : ℕ). z ≤ fold max a (y ∷ ys)) y ys i x at (let l : max a y ≤ fold max (max a y) ys = fold_above ys (max a y) in omega arith) (λ j b. fold_reaches ys (max a y) j x b)

filter_reaches : (p : ℕ → Bool) (xs : List ℕ) (a i x : ℕ) → At xs i x → p x ≡ true → x ≤ fold max a (filter p xs)
filter_reaches p [] a i x at t = absurd (none-some x at)
filter_reaches p (y ∷ ys) a zero x at t =
    let same : y ≡ x = same_Some y x at in
    let kept : filter p (y ∷ ys) ≡ y ∷ filter p ys = cond-true (p y) (y ∷ filter p ys) (filter p ys) (ap p same ∙ t) in
    subst (λ (l : List ℕ). x ≤ fold max a l) (sym kept) (fold_reaches (y ∷ filter p ys) a 0 x at)
filter_reaches p (y ∷ ys) a (suc i) x at t =
    cond_both (p y) (y ∷ filter p ys) (filter p ys) (λ (l : List ℕ). x ≤ fold max a l) (λ u. filter_reaches p ys (max a y) i x at t) (λ u. filter_reaches p ys a i x at t)

held_least : (lengths : List ℕ) (low : ℕ) → 0 < length lengths → ((i x : ℕ) → At lengths i x → low ≤ x) → low ≤ held_by (length lengths) lengths
held_least [] low some h = absurd (omega arith)
held_least (x ∷ xs) low some h =
    let l : Least (x ∷ xs) = least_of x xs in
    let reach : l.least ≤ held_by (length (x ∷ xs)) (x ∷ xs) = filter_reaches (λ m. nat_le (length (x ∷ xs)) (count_by (λ y. nat_le m y) (x ∷ xs))) (x ∷ xs) 0 l.place l.least l.there
    (le-leb (length (x ∷ xs)) (count_by (λ y. nat_le l.least y) (x ∷ xs)) (count_all (λ y. nat_le l.least y) (x ∷ xs) (λ i y a. le-leb l.least y (l.below i y a)))) in
    let low-least : low ≤ l.least = h l.place l.least l.there in
    omega arith

-- ---- a primary

pub other_at : (r : Replica) (q : ℕ) → HasMember r.members q → (q ≡ r.me → ⊥) → (i : ℕ) × At (others r) i q
other_at r q h ne = index_of (others r) q (member_filter (λ m. not (m == r.me)) r.members q h (not_from_false (nat_eq q r.me) (ne_eqb q r.me ne)))

module _ (r : Replica) where
  abbrev quorum : ℕ
  quorum = quorum_len r (length (others r))

  -- each other has acknowledged as much as the commit rule finds
  pub quorum_all : 0 < quorum_len r (length (others r)) → (i q : ℕ) → At (others r) i q → quorum_len r (length (others r)) ≤ acked_by r q
  quorum_all some i q at =
      let within : i < length (others r) = slice_get_within (others r) i q at in
      let lengths : List ℕ = map (acked_by r) (others r) in
      cond_both (length (others r) == 0) (len r) (held_by (length (others r)) lengths) (λ (m : ℕ). 0 < m → m ≤ acked_by r q)
      (λ t l. absurd (let none : length (others r) ≡ 0 = eqb-true (length (others r)) 0 t in omega arith))
      (λ t l. leb-true (held_by (length (others r)) lengths) (acked_by r q) (all_reach (λ x. nat_le (held_by (length (others r)) lengths) x) lengths
      (let same : length lengths ≡ length (others r) = length-map (others r) (acked_by r) in let enough : length (others r) ≤ count_by (λ x. nat_le (held_by (length (others r)) lengths) x) lengths = held_reached (length (others r)) lengths l in omega arith)
      i (acked_by r q) (at_map (acked_by r) (others r) i q at)))
      some

  pub quorum_fits : ((q : ℕ) → acked_by r q ≤ length r.log) → 0 < quorum_len r (length (others r)) → quorum_len r (length (others r)) ≤ length r.log
  quorum_fits within some = elim (cases_Bool (length (others r) == 0)) [
    | inl t ↦ (let e : quorum_len r (length (others r)) ≡ len r = cond-true (length (others r) == 0) (len r) (held_by (length (others r)) (map (acked_by r) (others r))) t in omega arith)
    | inr f ↦ (
        let ne : length (others r) ≡ 0 → ⊥ = eqb-false (length (others r)) 0 f in
        let first : (q : ℕ) × At (others r) 0 q = there_is (others r) 0 (omega arith) in
        let l : quorum_len r (length (others r)) ≤ acked_by r first.0 = quorum_all some 0 first.0 first.1 in
        let m : acked_by r first.0 ≤ length r.log = within first.0 in
        omega arith)
  ]

  -- where the primary is settled, the commit rule finds at least its start
  pub quorum_low : r.start ≤ length r.log → is_settled r ≡ true → r.start ≤ quorum_len r (length (others r))
  quorum_low long t =
      let lengths : List ℕ = map (acked_by r) (others r) in
      let same : length lengths ≡ length (others r) = length-map (others r) (acked_by r) in
      cond_both (length (others r) == 0) (len r) (held_by (length (others r)) lengths) (λ (m : ℕ). r.start ≤ m) (λ z. long)
      (λ z. subst (λ (k : ℕ). r.start ≤ held_by k lengths) same (held_least lengths r.start (let ne : length (others r) ≡ 0 → ⊥ = eqb-false (length (others r)) 0 z in omega arith)
      (at_mapped (acked_by r) (λ (y : ℕ). r.start ≤ y) (others r) (λ i q a. leb-true r.start (acked_by r q) (all_true (λ other. nat_le r.start (acked_by r other)) (others r) t i q a)))))

  pub settled_from : ((i q : ℕ) → At (others r) i q → r.start ≤ acked_by r q) → is_settled r ≡ true
  settled_from h = all_from (λ other. nat_le r.start (acked_by r other)) (others r) (λ i q a. le-leb r.start (acked_by r q) (h i q a))
