-- Lists of members: the first is the least and the last the greatest, and who stands before a member.
use Rattle.std.proofs.Common.{◌≡◌, ℕ, zero, suc, ◌+◌, ◌-◌, ◌<◌, ◌≤◌, ◌⊎◌, Bool, true, false, List, [], ◌∷◌, ◌++◌, length, Option, Some, None, refl, sym, ap, subst, ◌∙◌, arith, inl, inr}
use Rattle.std.specs.Prelude.{◌==◌, nat_eq, filter, slice_index}
use Rattle.std.proofs.lemmas.Bool.{cond_both, false≢true, eqb-true, eq-eqb, or_cases, or_left, or_right, both_ways, cases_Bool, cond-true}
use Rattle.std.proofs.lemmas.Option.{none-some, same_Some}
use Rattle.hm_base.specs.Lists.{IsPrefix}
use Rattle.hm_order.specs.Marks.{At}
use Rattle.hm_rules.specs.Numbers.{stands_in, numbers_from}
use Rattle.hm_rules.specs.Chain.{before_in}
use Rattle.hm_core_laws.specs.Epochs.{HasMember, RiseFrom}

-- it is the first, or stands behind it
pub member_cases : (m : ℕ) (ms : List ℕ) (i : ℕ) → HasMember (m ∷ ms) i → (m ≡ i) ⊎ HasMember ms i
member_cases m ms i h = elim (or_cases (nat_eq m i) (stands_in i ms) h) [ inl here ↦ inl (eqb-true m i here) | inr later ↦ inr later ]

pub above_low : (low : ℕ) (ms : List ℕ) (i : ℕ) → RiseFrom low ms → HasMember ms i → low ≤ i
above_low low [] i r h = absurd (false≢true h)
above_low low (m ∷ ms) i r h = elim (member_cases m ms i h) [
  | inl here ↦ (let l : low ≤ m = r.0 in omega arith)
  | inr later ↦ (let l : low ≤ m = r.0 in let a : m + 1 ≤ i = above_low (m + 1) ms i r.1 later in omega arith)
]

-- ---- the first and the last

pub first_least : (low : ℕ) (ms : List ℕ) (i : ℕ) → RiseFrom low ms → HasMember ms i → slice_index ms 0 ≤ i
first_least low [] i r h = absurd (false≢true h)
first_least low (m ∷ ms) i r h = above_low m (m ∷ ms) i (omega arith, r.1) h

pub last_greatest : (low : ℕ) (ms : List ℕ) (i : ℕ) → RiseFrom low ms → HasMember ms i → i ≤ slice_index ms (length ms - 1)
last_greatest low [] i r h = absurd (false≢true h)
last_greatest low (m ∷ []) i r h = elim (member_cases m [] i h) [ inl here ↦ omega arith | inr later ↦ absurd (false≢true later) ]
last_greatest low (m ∷ k ∷ ks) i r h =
    let place : length (m ∷ k ∷ ks) - 1 ≡ suc (length (k ∷ ks) - 1) = omega arith in
    let same : slice_index (m ∷ k ∷ ks) (length (m ∷ k ∷ ks) - 1) ≡ slice_index (k ∷ ks) (length (k ∷ ks) - 1) = ap (λ (j : ℕ). slice_index (m ∷ k ∷ ks) j) place in
    elim (member_cases m (k ∷ ks) i h) [
      | inl here ↦ (
          let second : m + 1 ≤ k = r.1.0 in
          let last : k ≤ slice_index (k ∷ ks) (length (k ∷ ks) - 1) = last_greatest (m + 1) (k ∷ ks) k r.1 (first_stands k ks) in
          omega arith)
      | inr later ↦ (let last : i ≤ slice_index (k ∷ ks) (length (k ∷ ks) - 1) = last_greatest (m + 1) (k ∷ ks) i r.1 later in omega arith)
    ]
  where
    first_stands : (k : ℕ) (ks : List ℕ) → HasMember (k ∷ ks) k
    first_stands k ks = or_left (nat_eq k k) (stands_in k ks) (eq-eqb k k refl)

-- ---- the member before

-- the member before `me` is the greatest below it
pub record IsBefore (members : List ℕ) (me other : ℕ) : Type 0 where
  pub member : HasMember members other
  pub below : other < me
  pub greatest : (i : ℕ) → HasMember members i → i < me → i ≤ other

-- the same, looked for from a place on, behind a member
record IsFound (before : ℕ) (members : List ℕ) (me other : ℕ) : Type 0 where
  low : before ≤ other
  member : (before ≡ other) ⊎ HasMember members other
  below : other < me
  greatest : (i : ℕ) → HasMember members i → i < me → i ≤ other

found : (before me other : ℕ) (ms : List ℕ) → RiseFrom (before + 1) ms → before_in me (Some before) ms ≡ Some other → IsFound before ms me other
found before me other [] r e = absurd (none-some other e)
found before me other (m ∷ ms) r e =
    cond_both (m == me) (Some before) (before_in me (Some m) ms) (λ (o : Option ℕ). o ≡ Some other → IsFound before (m ∷ ms) me other)
    (λ t here.
    let same : before ≡ other = same_Some before other here in
    let at : m ≡ me = eqb-true m me t in
    let l : before + 1 ≤ m = r.0 in
    record {
      low = omega arith;
      member = inl same;
      below = omega arith;
      greatest = λ i h below. absurd (let a : m ≤ i = above_low m (m ∷ ms) i (omega arith, r.1) h in omega arith);
    })
    (λ t later.
    let x : IsFound m ms me other = found m me other ms r.1 later in
    let l : before + 1 ≤ m = r.0 in
    let low : m ≤ other = x.low in
    record {
      low = omega arith;
      member = inr (elim x.member [ inl here ↦ or_left (nat_eq m other) (stands_in other ms) (eq-eqb m other here) | inr there ↦ or_right (nat_eq m other) (stands_in other ms) there ]);
      below = x.below;
      greatest = λ i h below. elim (member_cases m ms i h) [ inl here ↦ omega arith | inr there ↦ x.greatest i there below ];
    })
    e

pub before_is : (low me other : ℕ) (ms : List ℕ) → RiseFrom low ms → before_in me None ms ≡ Some other → IsBefore ms me other
before_is low me other [] r e = absurd (none-some other e)
before_is low me other (m ∷ ms) r e =
    cond_both (m == me) None (before_in me (Some m) ms) (λ (o : Option ℕ). o ≡ Some other → IsBefore (m ∷ ms) me other)
    (λ t none. absurd (none-some other none))
    (λ t later.
    let x : IsFound m ms me other = found m me other ms r.1 later in
    let low : m ≤ other = x.low in
    record {
      member = elim x.member [ inl here ↦ or_left (nat_eq m other) (stands_in other ms) (eq-eqb m other here) | inr there ↦ or_right (nat_eq m other) (stands_in other ms) there ];
      below = x.below;
      greatest = λ i h below. elim (member_cases m ms i h) [ inl here ↦ omega arith | inr there ↦ x.greatest i there below ];
    })
    e

-- ---- the first group

pub numbers_rise : (first n : ℕ) → RiseFrom first (numbers_from first n)
numbers_rise first zero = tt
numbers_rise first (suc n) = (omega arith, numbers_rise (first + 1) n)

pub numbers_below : (first n i : ℕ) → HasMember (numbers_from first n) i → i < first + n
numbers_below first zero i h = absurd (false≢true h)
numbers_below first (suc n) i h = elim (member_cases first (numbers_from (first + 1) n) i h) [
  | inl here ↦ omega arith
  | inr later ↦ (let l : i < first + 1 + n = numbers_below (first + 1) n i later in omega arith)
]

pub numbers_at : (first n i m : ℕ) → At (numbers_from first n) i m → m ≡ first + i
numbers_at first zero i m a = absurd (none-some m a)
numbers_at first (suc n) zero m a = (let e : first ≡ m = same_Some first m a in omega arith)
numbers_at first (suc n) (suc i) m a = (let e : m ≡ first + 1 + i = numbers_at (first + 1) n i m a in omega arith)

pub numbers-length : (first n : ℕ) → length (numbers_from first n) ≡ n
numbers-length first zero = refl
numbers-length first (suc n) = (let e : length (numbers_from (first + 1) n) ≡ n = numbers-length (first + 1) n in omega arith)

pub member_at : (ms : List ℕ) (i m : ℕ) → At ms i m → HasMember ms m
member_at [] i m a = absurd (none-some m a)
member_at (k ∷ ks) zero m a = or_left (nat_eq k m) (stands_in m ks) (eq-eqb k m (same_Some k m a))
member_at (k ∷ ks) (suc i) m a = or_right (nat_eq k m) (stands_in m ks) (member_at ks i m a)

-- ---- a member less

pub rise_lower : (low high : ℕ) (ms : List ℕ) → low ≤ high → RiseFrom high ms → RiseFrom low ms
rise_lower low high [] l r = tt
rise_lower low high (m ∷ ms) l r = (let a : high ≤ m = r.0 in omega arith, r.1)

pub rise_filter : (p : ℕ → Bool) (low : ℕ) (ms : List ℕ) → RiseFrom low ms → RiseFrom low (filter p ms)
rise_filter p low [] r = tt
rise_filter p low (m ∷ ms) r =
    cond_both (p m) (m ∷ filter p ms) (filter p ms) (RiseFrom low) (λ t. (r.0, rise_filter p (m + 1) ms r.1))
    (λ t. rise_lower low (m + 1) (filter p ms) (let l : low ≤ m = r.0 in omega arith) (rise_filter p (m + 1) ms r.1))

pub filter_member : (p : ℕ → Bool) (ms : List ℕ) (i : ℕ) → HasMember (filter p ms) i → HasMember ms i
filter_member p [] i h = h
filter_member p (m ∷ ms) i h =
    cond_both (p m) (m ∷ filter p ms) (filter p ms) (λ (l : List ℕ). HasMember l i → HasMember (m ∷ ms) i)
    (λ t x. elim (member_cases m (filter p ms) i x) [ inl here ↦ or_left (nat_eq m i) (stands_in i ms) (eq-eqb m i here) | inr later ↦ or_right (nat_eq m i) (stands_in i ms) (filter_member p ms i later) ])
    (λ t x. or_right (nat_eq m i) (stands_in i ms) (filter_member p ms i x)) h

pub member_filter : (p : ℕ → Bool) (ms : List ℕ) (i : ℕ) → HasMember ms i → p i ≡ true → HasMember (filter p ms) i
member_filter p [] i h t = h
member_filter p (m ∷ ms) i h t = elim (member_cases m ms i h) [
  | inl here ↦ (
      let first : filter p (m ∷ ms) ≡ m ∷ filter p ms = cond-true (p m) (m ∷ filter p ms) (filter p ms) (ap p here ∙ t) in
      subst (λ (l : List ℕ). HasMember l i) (sym first) (or_left (nat_eq m i) (stands_in i (filter p ms)) (eq-eqb m i here)))
  | inr later ↦ cond_both (p m) (m ∷ filter p ms) (filter p ms) (λ (l : List ℕ). HasMember l i) (λ f. or_right (nat_eq m i) (stands_in i (filter p ms)) (member_filter p ms i later t)) (λ f. member_filter p ms i later t)
]

-- ---- a list that grew behind

pub member_longer : (ms more : List ℕ) (i : ℕ) → HasMember ms i → HasMember (ms ++ more) i
member_longer [] more i h = absurd (false≢true h)
member_longer (m ∷ ms) more i h = elim (member_cases m ms i h) [
  | inl here ↦ or_left (nat_eq m i) (stands_in i (ms ++ more)) (eq-eqb m i here)
  | inr later ↦ or_right (nat_eq m i) (stands_in i (ms ++ more)) (member_longer ms more i later)
]

-- who isn't in the longer list isn't in the shorter one
pub absent_before : (ms later : List ℕ) (i : ℕ) → IsPrefix ms later → stands_in i later ≡ false → stands_in i ms ≡ false
absent_before ms later i p f = elim (cases_Bool (stands_in i ms)) [
  | inl t ↦ absurd (both_ways (stands_in i later) f (subst (λ (l : List ℕ). HasMember l i) p.parts (member_longer ms p.rest i t)))
  | inr e ↦ e
]
