-- A list in the order of its items' numbers, when one leaves it or comes to its back.
use Rattle.std.proofs.Common.{◌≡◌, ◌≢◌, ℕ, ◌<◌, ◌≤◌, Bool, true, false, List, [], ◌∷◌, ◌++◌, Some, None, refl, sym, ap, ◌∙◌, subst, inl, inr, arith}
use Rattle.std.specs.Prelude.{not, ◌==◌, ◌&&◌, ◌||◌, nat_lt, slice_get}
use Rattle.std.specs.List.{AllByRecursion, filter}
use Rattle.std.proofs.lemmas.Bool.{cases_eq, false≢true, or_cases, or_left, or_right, eqb-true, eq-eqb, ne_eqb, not_from_true, not_from_false, lt-ltb, cond-true, cond-false, cond_both}
use Rattle.std.proofs.lemmas.List.Folds.{list_any-append}
use Rattle.std.proofs.lemmas.Map.Views.{any-filter_same}
use Rattle.std.proofs.lemmas.Option.{none-some, same_Some}
use Rattle.hm_links.specs.Linked.{is_linked, others}
use Rattle.hm_dirtyset.specs.ByNumber.{IsRising, IsInOrder}

-- ---- the front

pub none_linked : (items : List ℕ) (at : ℕ) → slice_get items 0 ≡ None → is_linked at items ≡ false
none_linked [] at e = refl
none_linked (x ∷ xs) at e = absurd (none-some x (sym e))

pub front_linked : (items : List ℕ) (front : ℕ) → slice_get items 0 ≡ Some front → is_linked front items ≡ true
front_linked [] front e = absurd (none-some front e)
front_linked (x ∷ xs) front e = or_left (x == front) (is_linked front xs) (eq-eqb x front (same_Some x front e))

each_linked : (P : ℕ → Type 0) (xs : List ℕ) (at : ℕ) → AllByRecursion P xs → is_linked at xs ≡ true → P at
each_linked P [] at h e = absurd (false≢true e)
each_linked P (x ∷ xs) at h e = elim (or_cases (x == at) (is_linked at xs) e) [
  | inl same ↦ subst P (eqb-true x at same) h.0
  | inr later ↦ each_linked P xs at h.1 later
]

pub front_least : (number : ℕ → ℕ) (items : List ℕ) (front at : ℕ) → IsRising number items → slice_get items 0 ≡ Some front → is_linked at items ≡ true → number front ≤ number at
front_least number [] front at rising e linked = absurd (none-some front e)
front_least number (x ∷ xs) front at rising e linked =
    let here : x ≡ front = same_Some x front e in
    elim (or_cases (x == at) (is_linked at xs) linked) [
      | inl same ↦ let is : number front ≡ number at = ap (λ (k : ℕ). number k) (sym here ∙ eqb-true x at same) in omega arith
      | inr later ↦
          let less : number x < number at = each_linked (λ y. number x < number y) xs at rising.0 later in
          let is : number x ≡ number front = ap (λ (k : ℕ). number k) here in
          omega arith
    ]

-- ---- the others

others_linked : (i k : ℕ) (items : List ℕ) → is_linked k (others i items) ≡ (not (k == i) && is_linked k items)
others_linked i k items = any-filter_same (λ o. o == k) (λ o. not (o == i)) (not (k == i)) (λ o same. ap (λ (n : ℕ). not (n == i)) (eqb-true o k same)) items

each_filter : (P : ℕ → Type 0) (p : ℕ → Bool) (xs : List ℕ) → AllByRecursion P xs → AllByRecursion P (filter p xs)
each_filter P p [] h = tt
each_filter P p (x ∷ xs) h = cond_both (p x) (x ∷ filter p xs) (filter p xs) (AllByRecursion P) (λ t. (h.0, each_filter P p xs h.1)) (λ f. each_filter P p xs h.1)

rising_filter : (number : ℕ → ℕ) (p : ℕ → Bool) (xs : List ℕ) → IsRising number xs → IsRising number (filter p xs)
rising_filter number p [] h = tt
rising_filter number p (x ∷ xs) h =
    cond_both (p x) (x ∷ filter p xs) (filter p xs) (IsRising number) (λ t. (each_filter (λ y. number x < number y) p xs h.0, rising_filter number p xs h.1)) (λ f. rising_filter number p xs h.1)

others_apart : (i : ℕ) (items : List ℕ) → AllByRecursion (λ k. k ≢ i) (others i items)
others_apart i [] = tt
others_apart i (x ∷ xs) = elim (cases_eq x i) [
  | inl same ↦ subst (AllByRecursion (λ k. k ≢ i)) (sym (cond-false (not (x == i)) (x ∷ others i xs) (others i xs) (not_from_true (x == i) (eq-eqb x i same)))) (others_apart i xs)
  | inr other ↦ subst (AllByRecursion (λ k. k ≢ i)) (sym (cond-true (not (x == i)) (x ∷ others i xs) (others i xs) (not_from_false (x == i) (ne_eqb x i other)))) (other, others_apart i xs)
]

-- the same order by numbers that agree on the list
each_less : (number later : ℕ → ℕ) (x : ℕ) (xs : List ℕ) → later x ≡ number x → AllByRecursion (λ k. later k ≡ number k) xs → AllByRecursion (λ y. number x < number y) xs → AllByRecursion (λ y. later x < later y) xs
each_less number later x [] same all h = tt
each_less number later x (y ∷ ys) same all h = (let e : later y ≡ number y = all.0 in let less : number x < number y = h.0 in omega arith, each_less number later x ys same all.1 h.1)

rising_same : (number later : ℕ → ℕ) (xs : List ℕ) → AllByRecursion (λ k. later k ≡ number k) xs → IsRising number xs → IsRising later xs
rising_same number later [] all h = tt
rising_same number later (x ∷ xs) all h = (each_less number later x xs all.0 all.1 h.0, rising_same number later xs all.1 h.1)

each_same : (number later : ℕ → ℕ) (i : ℕ) (xs : List ℕ) → ((k : ℕ) → k ≢ i → later k ≡ number k) → AllByRecursion (λ k. k ≢ i) xs → AllByRecursion (λ k. later k ≡ number k) xs
each_same number later i [] same h = tt
each_same number later i (x ∷ xs) same h = (same x h.0, each_same number later i xs same h.1)

rising_others : (number later : ℕ → ℕ) (i : ℕ) (items : List ℕ) → ((k : ℕ) → k ≢ i → later k ≡ number k) → IsRising number items → IsRising later (others i items)
rising_others number later i items same h =
    rising_same number later (others i items) (each_same number later i (others i items) same (others_apart i items)) (rising_filter number (λ o. not (o == i)) items h)

-- an item that has no number any more
pub emptied : (number later : ℕ → ℕ) (i : ℕ) (items : List ℕ) → IsInOrder number items → later i ≡ 0 → ((k : ℕ) → k ≢ i → later k ≡ number k) → IsInOrder later (others i items)
emptied number later i items h none same = record {
  linked = λ k. others_linked i k items ∙ elim (cases_eq k i) [
    | inl here ↦ ap (λ (b : Bool). b && is_linked k items) (not_from_true (k == i) (eq-eqb k i here)) ∙ sym (ap (λ (n : ℕ). nat_lt 0 n) (ap (λ (n : ℕ). later n) here ∙ none))
    | inr other ↦ ap (λ (b : Bool). b && is_linked k items) (not_from_false (k == i) (ne_eqb k i other)) ∙ h.linked k ∙ sym (ap (λ (n : ℕ). nat_lt 0 n) (same k other))
  ];
  rising = rising_others number later i items same h.rising;
}

-- ---- the back

rising_push : (number : ℕ → ℕ) (xs : List ℕ) (i : ℕ) → IsRising number xs → AllByRecursion (λ y. number y < number i) xs → IsRising number (xs ++ i ∷ [])
rising_push number [] i h low = (tt, tt)
rising_push number (x ∷ xs) i h low = (each_push (λ y. number x < number y) xs i h.0 low.0, rising_push number xs i h.1 low.1)
  where
    each_push : (P : ℕ → Type 0) (xs : List ℕ) (i : ℕ) → AllByRecursion P xs → P i → AllByRecursion P (xs ++ i ∷ [])
    each_push P [] i h p = (p, tt)
    each_push P (x ∷ xs) i h p = (h.0, each_push P xs i h.1 p)

each_below : (number later : ℕ → ℕ) (newest : ℕ) (xs : List ℕ) → ((k : ℕ) → number k < newest) → AllByRecursion (λ k. later k ≡ number k) xs → AllByRecursion (λ y. later y < newest) xs
each_below number later newest [] low same = tt
each_below number later newest (x ∷ xs) low same = (let e : later x ≡ number x = same.0 in let b : number x < newest = low x in omega arith, each_below number later newest xs low same.1)

back_linked : (i k : ℕ) (items : List ℕ) → is_linked k (others i items ++ i ∷ []) ≡ ((not (k == i) && is_linked k items) || (i == k))
back_linked i k items = list_any-append (λ o. o == k) (others i items) (i ∷ []) ∙ ap (λ (b : Bool). b || (i == k || false)) (others_linked i k items) ∙ ap (λ (b : Bool). (not (k == i) && is_linked k items) || b) (or_false (i == k))
  where
    or_false : (b : Bool) → (b || false) ≡ b
    or_false true = refl
    or_false false = refl

-- an item with a number above all others
pub renewed : (number later : ℕ → ℕ) (i : ℕ) (items : List ℕ) → IsInOrder number items → ((k : ℕ) → number k < later i) → ((k : ℕ) → k ≢ i → later k ≡ number k) → IsInOrder later (others i items ++ i ∷ [])
renewed number later i items h newest same = record {
  linked = λ k. back_linked i k items ∙ elim (cases_eq k i) [
    | inl here ↦
        let some : 0 < later i = let low : number i < later i = newest i in omega arith in
        or_right (not (k == i) && is_linked k items) (i == k) (eq-eqb i k (sym here)) ∙ sym (ap (λ (n : ℕ). nat_lt 0 (later n)) here ∙ lt-ltb 0 (later i) some)
    | inr other ↦
        ap (λ (b : Bool). (b && is_linked k items) || (i == k)) (not_from_false (k == i) (ne_eqb k i other))
        ∙ ap (λ (b : Bool). is_linked k items || b) (ne_eqb i k (λ e. other (sym e))) ∙ or_none (is_linked k items)
        ∙ h.linked k ∙ sym (ap (λ (n : ℕ). nat_lt 0 n) (same k other))
  ];
  rising = rising_push later (others i items) i (rising_others number later i items same h.rising) (each_below number later (later i) (others i items) newest (each_same number later i (others i items) same (others_apart i items)));
}
  where
    or_none : (b : Bool) → (b || false) ≡ b
    or_none true = refl
    or_none false = refl
