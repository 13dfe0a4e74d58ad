-- How many of some lengths reach a length, and what that says of the greatest that so many reach.
use Rattle.std.proofs.Common.{◌≡◌, ℕ, zero, suc, ◌+◌, ◌<◌, ◌≤◌, ◌⊎◌, inl, inr, Bool, true, if◌then◌else◌, List, [], ◌∷◌, ap, ◌∙◌, subst, arith}
use Rattle.std.specs.Prelude.{max, filter, fold, count_by, nat_le, slice_index_or, All, sum}
use Rattle.std.proofs.lemmas.Bool.{leb-true, le-leb, cases_lt, cases_eq, cond_both, cases_Bool, both_ways}
use Rattle.std.proofs.lemmas.List.Elements.{All-head, All-tail}
use Rattle.std.proofs.lemmas.List.Sums.{sum_by-cons, sum_by-le-sum_by, get_or-le-sum_by}
use Rattle.hm_base.specs.Taking.{held_by}

-- how many of some lengths reach this one
abbrev pub count_reaching : ℕ → List ℕ → ℕ
count_reaching len lengths = count_by (λ l. nat_le len l) lengths

-- 1 where the second reaches the first
abbrev pub score : ℕ → ℕ → ℕ
score len x = if nat_le len x then 1 else 0

pub score_one : (len x : ℕ) → len ≤ x → score len x ≡ 1
score_one len x l = ap (λ (r : Bool). if r then 1 else 0) (le-leb len x l)

pub score_none : (len x : ℕ) → x < len → score len x ≡ 0
score_none len x l = elim (cases_Bool (nat_le len x)) [
  | inl t ↦ absurd (omega (arith, leb-true len x t))
  | inr f ↦ ap (λ (r : Bool). if r then 1 else 0) f
]

pub score_within : (len x : ℕ) → score len x ≤ 1
score_within len x = elim (cases_lt x len) [
  | inl below ↦ omega (arith, score_none len x below)
  | inr reached ↦ omega (arith, score_one len x reached)
]

-- who reaches a length reaches a lower one
pub one_fewer : (a b x : ℕ) → a ≤ b → score b x ≤ score a x
one_fewer a b x l = elim (cases_lt x b) [
  | inl below ↦ omega (arith, score_none b x below)
  | inr reached ↦ omega (arith, score_one b x reached, score_one a x (omega arith))
]

fewer_reach : (a b : ℕ) → a ≤ b → (xs : List ℕ) → count_reaching b xs ≤ count_reaching a xs
fewer_reach a b l xs = sum_by-le-sum_by (score b) (score a) xs (λ x. one_fewer a b x l)

-- each reaches itself
each_counts : (xs : List ℕ) → All (λ m. 1 ≤ count_reaching m xs) xs
each_counts xs k d less =
    let m : ℕ = slice_index_or xs k d in
    let one : score m m ≡ 1 = score_one m m (omega arith) in
    let part : score m m ≤ count_reaching m xs = get_or-le-sum_by (score m) xs k d less in
    omega (arith, one, part)

-- the greatest that passes a test, where none above a floor does
most_below : (p : ℕ → Bool) (floor : ℕ) (xs : List ℕ) (a : ℕ) → All (λ m. p m ≡ true → m ≤ floor) xs → a ≤ floor → fold max a (filter p xs) ≤ floor
most_below p floor [] a all l = l
most_below p floor (x ∷ xs) a all l =
    let rest = All-tail (λ m. p m ≡ true → m ≤ floor) x xs all in
    cond_both (p x) (x ∷ filter p xs) (filter p xs) (λ (ys : List ℕ). fold max a ys ≤ floor)
    (λ t. most_below p floor xs (max a x) rest (let m : x ≤ floor = All-head (λ m. p m ≡ true → m ≤ floor) x xs all t in omega arith))
    (λ f. most_below p floor xs a rest l)

-- where fewer than so many reach a length, what so many reach is below it
pub held_below : (k floor : ℕ) (lengths : List ℕ) → count_reaching (floor + 1) lengths < max k 1 → held_by k lengths ≤ floor
held_below k floor lengths few =
    most_below (λ m. nat_le k (count_reaching m lengths)) floor lengths 0
    (λ i d less t. let m : ℕ = slice_index_or lengths i d in elim (cases_lt floor m) [
      | inl more ↦ (
          let many : k ≤ count_reaching m lengths = leb-true k (count_reaching m lengths) t in
          let one : 1 ≤ count_reaching m lengths = each_counts lengths i d less in
          let lower : count_reaching m lengths ≤ count_reaching (floor + 1) lengths = fewer_reach (floor + 1) m (omega arith) lengths in
          absurd (omega (arith, many, one, lower, few)))
      | inr within ↦ within
    ]) (omega arith)

least_fold : (xs : List ℕ) (a : ℕ) → a ≤ fold max a xs
least_fold [] a = omega arith
least_fold (x ∷ xs) a = omega (arith, least_fold xs (max a x))

-- one more of them, where it isn't this length
step : (P : Type 0) (y x : ℕ) (xs : List ℕ) → (x ≡ y → ⊥) → P ⊎ (count_reaching y xs ≤ count_reaching (y + 1) xs) → P ⊎ (count_reaching y (x ∷ xs) ≤ count_reaching (y + 1) (x ∷ xs))
step P y x xs other (inl found) = inl found
step P y x xs other (inr more) =
    let first : count_reaching y (x ∷ xs) ≡ score y x + count_reaching y xs = sum_by-cons (score y) x xs in
    let second : count_reaching (y + 1) (x ∷ xs) ≡ score (y + 1) x + count_reaching (y + 1) xs = sum_by-cons (score (y + 1)) x xs in
    let both : score y x ≤ score (y + 1) x =
    elim (cases_lt x y) [
      | inl below ↦ omega (arith, score_none y x below)
      | inr reached ↦ omega (arith, score_one y x reached, score_one (y + 1) x (omega (arith, other)))
    ] in
    inr (omega (arith, first, second, both, more))

-- either one of them is this length, or as many reach the next one
found : (p : ℕ → Bool) (y : ℕ) → p y ≡ true → (xs : List ℕ) (a : ℕ) → (y ≤ fold max a (filter p xs)) ⊎ (count_reaching y xs ≤ count_reaching (y + 1) xs)
found p y t [] a = inr (omega arith)
found p y t (x ∷ xs) a = elim (cases_eq x y) [
  | inl same ↦ inl (cond_both (p x) (x ∷ filter p xs) (filter p xs) (λ (ys : List ℕ). y ≤ fold max a ys)
      (λ yes. omega (arith, least_fold (filter p xs) (max a x), same))
      (λ no. absurd (both_ways (p x) no (ap p same ∙ t))))
  | inr other ↦ cond_both (p x) (x ∷ filter p xs) (filter p xs) (λ (ys : List ℕ). (y ≤ fold max a ys) ⊎ (count_reaching y (x ∷ xs) ≤ count_reaching (y + 1) (x ∷ xs)))
      (λ yes. step (y ≤ fold max (max a x) (filter p xs)) y x xs other (found p y t xs (max a x)))
      (λ no. step (y ≤ fold max a (filter p xs)) y x xs other (found p y t xs a))
]

-- none reaches more than all of them together
none_reach : (xs : List ℕ) (b : ℕ) → sum xs < b → count_reaching b xs ≤ 0
none_reach [] b l = omega arith
none_reach (x ∷ xs) b l =
    let total : sum (x ∷ xs) ≡ x + sum xs = sum_by-cons (λ (n : ℕ). n) x xs in
    let count : count_reaching b (x ∷ xs) ≡ score b x + count_reaching b xs = sum_by-cons (score b) x xs in
    omega (arith, score_none b x (omega arith), none_reach xs b (omega arith))

-- from a length that so many reach up to one that none reaches
rises : (k : ℕ) (lengths : List ℕ) (n y b : ℕ) → y + n ≡ b → count_reaching b lengths ≤ 0 → max k 1 ≤ count_reaching y lengths → y ≤ held_by k lengths
rises k lengths zero y b e none many =
    let same : b ≡ y = omega (arith, e) in
    let few : count_reaching y lengths ≤ 0 = subst (λ (z : ℕ). count_reaching z lengths ≤ 0) same none in
    absurd (omega (arith, few, many))
rises k lengths (suc n) y b e none many =
    elim (found (λ m. nat_le k (count_reaching m lengths)) y (le-leb k (count_reaching y lengths) (omega arith)) lengths 0) [
      | inl reached ↦ reached
      | inr more ↦ omega (arith, rises k lengths n (y + 1) b (omega arith) none (omega arith))
    ]

-- where so many reach a length, and one at least, what so many reach isn't below it
pub held_reaches : (k y : ℕ) (lengths : List ℕ) → max k 1 ≤ count_reaching y lengths → y ≤ held_by k lengths
held_reaches k y lengths many =
    rises k lengths (sum lengths + 1) y (y + (sum lengths + 1)) (omega arith) (none_reach lengths (y + (sum lengths + 1)) (omega arith)) many
