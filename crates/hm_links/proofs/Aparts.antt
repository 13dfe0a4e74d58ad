-- Lists whose items are apart from each other.
use Rattle.std.proofs.Common.{◌≡◌, ◌≢◌, ℕ, zero, suc, ◌<◌, ◌≤◌, Bool, true, false, List, [], ◌∷◌, ◌++◌, length, refl, sym, ap, ◌∙◌, subst, arith, inl, inr, length-append}
use Rattle.std.specs.Prelude.{not, ◌==◌, ◌||◌}
use Rattle.std.specs.List.{AllByRecursion}
use Rattle.std.proofs.lemmas.Bool.{cases_Bool, false≢true, eqb-true, eqb-false, ne_eqb, eq-eqb, or_parts, or_from, not_from_true, not_from_false, cond-true, cond-false}
use Rattle.std.proofs.lemmas.List.Elements.{filter-append}
use Rattle.hm_base.specs.Lists.{IsIn}
use Rattle.hm_links.specs.Linked.{is_linked, others}
use Rattle.hm_links.specs.Ring.{IsApartFrom, AreApart}

-- ---- what holds of each item

pub each_left : {A : Type 0} (P : A → Type 0) (xs ys : List A) → AllByRecursion P (xs ++ ys) → AllByRecursion P xs
each_left P [] ys h = tt
each_left P (x ∷ xs) ys h = (h.0, each_left P xs ys h.1)

pub each_right : {A : Type 0} (P : A → Type 0) (xs ys : List A) → AllByRecursion P (xs ++ ys) → AllByRecursion P ys
each_right P [] ys h = h
each_right P (x ∷ xs) ys h = each_right P xs ys h.1

pub each_both : {A : Type 0} (P : A → Type 0) (xs ys : List A) → AllByRecursion P xs → AllByRecursion P ys → AllByRecursion P (xs ++ ys)
each_both P [] ys h k = k
each_both P (x ∷ xs) ys h k = (h.0, each_both P xs ys h.1 k)

pub each_weaker : {A : Type 0} (P Q : A → Type 0) → ((x : A) → P x → Q x) → (xs : List A) → AllByRecursion P xs → AllByRecursion Q xs
each_weaker P Q f [] h = tt
each_weaker P Q f (x ∷ xs) h = (f x h.0, each_weaker P Q f xs h.1)

pub each_with : {A : Type 0} (P Q R : A → Type 0) → ((x : A) → P x → Q x → R x) → (xs : List A) → AllByRecursion P xs → AllByRecursion Q xs → AllByRecursion R xs
each_with P Q R f [] h k = tt
each_with P Q R f (x ∷ xs) h k = (f x h.0 k.0, each_with P Q R f xs h.1 k.1)

-- ---- apart

pub apart_turned : (x y : ℕ) → x ≢ y → y ≢ x
apart_turned x y ne = λ e. ne (sym e)

pub apart_left : (xs ys : List ℕ) → AreApart (xs ++ ys) → AreApart xs
apart_left [] ys h = tt
apart_left (x ∷ xs) ys h = (each_left (λ y. x ≢ y) xs ys h.0, apart_left xs ys h.1)

pub apart_right : (xs ys : List ℕ) → AreApart (xs ++ ys) → AreApart ys
apart_right [] ys h = h
apart_right (x ∷ xs) ys h = apart_right xs ys h.1

-- each of the one list from each of the other
pub apart_across : (xs ys : List ℕ) → AreApart (xs ++ ys) → AllByRecursion (λ x. IsApartFrom x ys) xs
apart_across [] ys h = tt
apart_across (x ∷ xs) ys h = (each_right (λ y. x ≢ y) xs ys h.0, apart_across xs ys h.1)

pub apart_back : (xs ys : List ℕ) → AreApart (xs ++ ys) → AllByRecursion (λ y. IsApartFrom y xs) ys
apart_back [] ys h = apart_from_none ys
  where
    apart_from_none : (ys : List ℕ) → AllByRecursion (λ y. IsApartFrom y []) ys
    apart_from_none [] = tt
    apart_from_none (y ∷ ys) = (tt, apart_from_none ys)
apart_back (x ∷ xs) ys h =
    each_with (λ y. x ≢ y) (λ y. IsApartFrom y xs) (λ y. IsApartFrom y (x ∷ xs)) (λ y ne rest. (apart_turned x y ne, rest)) ys (each_right (λ y. x ≢ y) xs ys h.0) (apart_back xs ys h.1)

-- an item within, from those in front of it
pub apart_before : (xs : List ℕ) (i : ℕ) (ys : List ℕ) → AreApart (xs ++ i ∷ ys) → IsApartFrom i xs
apart_before xs i ys h = each_weaker (λ x. IsApartFrom x (i ∷ ys)) (λ x. i ≢ x) (λ x a. apart_turned x i a.0) xs (apart_across xs (i ∷ ys) h)

pub apart_without : (xs : List ℕ) (i : ℕ) (ys : List ℕ) → AreApart (xs ++ i ∷ ys) → AreApart (xs ++ ys)
apart_without [] i ys h = h.1
apart_without (x ∷ xs) i ys h =
    (each_both (λ y. x ≢ y) xs ys (each_left (λ y. x ≢ y) xs (i ∷ ys) h.0) (each_right (λ y. x ≢ y) xs (i ∷ ys) h.0).1, apart_without xs i ys h.1)

pub apart_push : (xs : List ℕ) (i : ℕ) → AreApart xs → IsApartFrom i xs → AreApart (xs ++ i ∷ [])
apart_push [] i h a = (tt, tt)
apart_push (x ∷ xs) i h a = (each_both (λ y. x ≢ y) xs (i ∷ []) h.0 (apart_turned i x a.0, tt), apart_push xs i h.1 a.1)

-- ---- the test

pub linked_parts : (i : ℕ) (xs : List ℕ) → is_linked i xs ≡ true → IsIn i xs
linked_parts i [] e = absurd (false≢true e)
linked_parts i (x ∷ xs) e = elim (cases_Bool (x == i)) [
  | inl is ↦ record { before = []; after = xs; parts = ap (λ (y : ℕ). y ∷ xs) (sym (eqb-true x i is)) }
  | inr is ↦ let rest : IsIn i xs = linked_parts i xs (subst (λ (b : Bool). (b || is_linked i xs) ≡ true) is e) in
      record { before = x ∷ rest.before; after = rest.after; parts = ap (λ (l : List ℕ). x ∷ l) rest.parts }
]

pub loose_apart : (i : ℕ) (xs : List ℕ) → is_linked i xs ≡ false → IsApartFrom i xs
loose_apart i [] e = tt
loose_apart i (x ∷ xs) e =
    let parts = or_parts (x == i) (is_linked i xs) e in
    (λ same. eqb-false x i parts.0 (sym same), loose_apart i xs parts.1)

pub apart_loose : (i : ℕ) (xs : List ℕ) → IsApartFrom i xs → is_linked i xs ≡ false
apart_loose i [] h = refl
apart_loose i (x ∷ xs) h = or_from (x == i) (is_linked i xs) (ne_eqb x i (apart_turned i x h.0)) (apart_loose i xs h.1)

pub others-apart : (i : ℕ) (xs : List ℕ) → IsApartFrom i xs → others i xs ≡ xs
others-apart i [] h = refl
others-apart i (x ∷ xs) h =
    cond-true (not (x == i)) (x ∷ others i xs) (others i xs) (not_from_false (x == i) (ne_eqb x i (apart_turned i x h.0)))
    ∙ ap (λ (l : List ℕ). x ∷ l) (others-apart i xs h.1)

pub others-here : (i : ℕ) (ys : List ℕ) → others i (i ∷ ys) ≡ others i ys
others-here i ys = cond-false (not (i == i)) (i ∷ others i ys) (others i ys) (not_from_true (i == i) (eq-eqb i i refl))

pub others-within : (xs : List ℕ) (i : ℕ) (ys : List ℕ) → AreApart (xs ++ i ∷ ys) → others i (xs ++ i ∷ ys) ≡ xs ++ ys
others-within xs i ys h =
    filter-append (λ other. not (other == i)) xs (i ∷ ys)
    ∙ ap (λ (l : List ℕ). l ++ others i (i ∷ ys)) (others-apart i xs (apart_before xs i ys h))
    ∙ ap (λ (l : List ℕ). xs ++ l) (others-here i ys ∙ others-apart i ys (apart_right xs (i ∷ ys) h).0)

-- an index in neither part isn't in the whole either, if it isn't the one between them
pub loose_within : (k : ℕ) (xs : List ℕ) (i : ℕ) (ys : List ℕ) → IsApartFrom k (xs ++ ys) → k ≢ i → IsApartFrom k (xs ++ i ∷ ys)
loose_within k xs i ys h ne =
    each_both (λ y. k ≢ y) xs (i ∷ ys) (each_left (λ y. k ≢ y) xs ys h) (ne, each_right (λ y. k ≢ y) xs ys h)

-- ---- there are no more of them than numbers below the bound

below_but : (m : ℕ) (xs : List ℕ) → AllByRecursion (λ x. x < suc m) xs → IsApartFrom m xs → AllByRecursion (λ x. x < m) xs
below_but m [] h a = tt
below_but m (x ∷ xs) h a = (let below : x < suc m = h.0 in let ne : m ≢ x = a.0 in omega arith, below_but m xs h.1 a.1)

pub length-apart : (n : ℕ) (xs : List ℕ) → AreApart xs → AllByRecursion (λ x. x < n) xs → length xs ≤ n
length-apart zero [] h b = omega arith
length-apart zero (x ∷ xs) h b = let below : x < 0 = b.0 in absurd (omega arith)
length-apart (suc m) xs h b = elim (cases_Bool (is_linked m xs)) [
  | inr is ↦ omega (arith, length-apart m xs h (below_but m xs b (loose_apart m xs is)))
  | inl is ↦
      let s : IsIn m xs = linked_parts m xs is in
      let apart : AreApart (s.before ++ m ∷ s.after) = subst AreApart (sym s.parts) h in
      let all : AllByRecursion (λ x. x < suc m) (s.before ++ m ∷ s.after) = subst (λ (l : List ℕ). AllByRecursion (λ x. x < suc m) l) (sym s.parts) b in
      let rest : IsApartFrom m (s.before ++ s.after) = each_both (λ y. m ≢ y) s.before s.after (apart_before s.before m s.after apart) (apart_right s.before (m ∷ s.after) apart).0 in
      let below : AllByRecursion (λ x. x < suc m) (s.before ++ s.after) = each_both (λ x. x < suc m) s.before s.after (each_left (λ x. x < suc m) s.before (m ∷ s.after) all) (each_right (λ x. x < suc m) s.before (m ∷ s.after) all).1 in
      let fewer : length (s.before ++ s.after) ≤ m = length-apart m (s.before ++ s.after) (apart_without s.before m s.after apart) (below_but m (s.before ++ s.after) below rest) in
      subst (λ (l : List ℕ). length l ≤ suc m) s.parts (omega (arith, length-append s.before (m ∷ s.after), length-append s.before s.after))
]
