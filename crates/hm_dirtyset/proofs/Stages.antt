-- The first stage that passes a test.
use Rattle.std.proofs.Common.{◌≡◌, ℕ, zero, suc, ◌+◌, ◌<◌, ◌≤◌, Bool, true, false, Option, Some, None, refl, sym, ap, ◌∙◌, arith, inl, inr}
use Rattle.std.specs.Prelude.{if◌then◌else◌}
use Rattle.std.proofs.lemmas.Bool.{cases_Bool, cond-true, cond-false, cases_eq}
use Rattle.std.proofs.lemmas.Option.{none-some, same_Some}
use Rattle.hm_base.specs.Slots.{first_stage}

-- what the first one is: it passes, and none before it does
pub record IsFirst (passes : ℕ → Bool) (from n stage : ℕ) : Type 0 where
  pub low : from ≤ stage
  pub high : stage < from + n
  pub passes_it : passes stage ≡ true
  pub none_before : (k : ℕ) → from ≤ k → k < stage → passes k ≡ false

pub first_found : (passes : ℕ → Bool) (from n stage : ℕ) → first_stage passes from n ≡ Some stage → IsFirst passes from n stage
first_found passes from zero stage e = absurd (none-some stage e)
first_found passes from (suc n) stage e = elim (cases_Bool (passes from)) [
  | inl is ↦
      let same : from ≡ stage = same_Some from stage (sym (cond-true (passes from) (Some from) (first_stage passes (from + 1) n) is) ∙ e) in
      record {
        low = omega arith;
        high = omega arith;
        passes_it = ap (λ k. passes k) (sym same) ∙ is;
        none_before = λ k a b. absurd (omega arith);
      }
  | inr not ↦
      let rest : IsFirst passes (from + 1) n stage = first_found passes (from + 1) n stage (sym (cond-false (passes from) (Some from) (first_stage passes (from + 1) n) not) ∙ e) in
      record {
        low = omega (arith, rest.low);
        high = omega (arith, rest.high);
        passes_it = rest.passes_it;
        none_before = λ k a b. elim (cases_eq k from) [ inl same ↦ ap (λ j. passes j) same ∙ not | inr other ↦ rest.none_before k (omega arith) b ];
      }
]

pub first_from : (passes : ℕ → Bool) (from n stage : ℕ) → IsFirst passes from n stage → first_stage passes from n ≡ Some stage
first_from passes from zero stage f = absurd (omega (arith, f.low, f.high))
first_from passes from (suc n) stage f = elim (cases_eq from stage) [
  | inl same ↦ cond-true (passes from) (Some from) (first_stage passes (from + 1) n) (ap (λ k. passes k) same ∙ f.passes_it) ∙ ap (λ (k : ℕ). Some k) same
  | inr other ↦
      let low : from ≤ stage = f.low in
      let rest : IsFirst passes (from + 1) n stage = record {
        low = omega arith;
        high = omega (arith, f.high);
        passes_it = f.passes_it;
        none_before = λ k a b. f.none_before k (omega arith) b;
      } in
      cond-false (passes from) (Some from) (first_stage passes (from + 1) n) (f.none_before from (omega arith) (omega arith)) ∙ first_from passes (from + 1) n stage rest
]

pub none_found : (passes : ℕ → Bool) (from n : ℕ) → first_stage passes from n ≡ None → (k : ℕ) → from ≤ k → k < from + n → passes k ≡ false
none_found passes from zero e k a b = absurd (omega arith)
none_found passes from (suc n) e k a b = elim (cases_Bool (passes from)) [
  | inl is ↦ absurd (none-some from (sym e ∙ cond-true (passes from) (Some from) (first_stage passes (from + 1) n) is))
  | inr not ↦ elim (cases_eq k from) [
    | inl same ↦ ap (λ j. passes j) same ∙ not
    | inr other ↦ none_found passes (from + 1) n (sym (cond-false (passes from) (Some from) (first_stage passes (from + 1) n) not) ∙ e) k (omega arith) (omega arith)
  ]
]

pub none_from : (passes : ℕ → Bool) (from n : ℕ) → ((k : ℕ) → from ≤ k → k < from + n → passes k ≡ false) → first_stage passes from n ≡ None
none_from passes from zero h = refl
none_from passes from (suc n) h =
    cond-false (passes from) (Some from) (first_stage passes (from + 1) n) (h from (omega arith) (omega arith))
    ∙ none_from passes (from + 1) n (λ k a b. h k (omega arith) (omega arith))

-- two tests that agree
pub first-same : (p q : ℕ → Bool) (from n : ℕ) → ((k : ℕ) → from ≤ k → k < from + n → p k ≡ q k) → first_stage p from n ≡ first_stage q from n
first-same p q from zero h = refl
first-same p q from (suc n) h =
    ap (λ (b : Bool). if b then Some from else first_stage p (from + 1) n) (h from (omega arith) (omega arith))
    ∙ ap (λ (o : Option ℕ). if q from then Some from else o) (first-same p q (from + 1) n (λ k a b. h k (omega arith) (omega arith)))

-- with the next stage
pub none_more : (passes : ℕ → Bool) (n : ℕ) → first_stage passes 0 n ≡ None → passes n ≡ false → first_stage passes 0 (n + 1) ≡ None
none_more passes n e last = none_from passes 0 (n + 1) (λ k a b. elim (cases_eq k n) [ inl same ↦ ap (λ j. passes j) same ∙ last | inr other ↦ none_found passes 0 n e k a (omega arith) ])

pub first_more : (passes : ℕ → Bool) (n m : ℕ) → first_stage passes 0 n ≡ None → passes n ≡ true → n < m → first_stage passes 0 m ≡ Some n
first_more passes n m e last lt = first_from passes 0 m n (record {
  low = omega arith;
  high = omega arith;
  passes_it = last;
  none_before = λ k a b. none_found passes 0 n e k a (omega arith);
})

pub first_longer : (passes : ℕ → Bool) (n m stage : ℕ) → first_stage passes 0 n ≡ Some stage → n ≤ m → first_stage passes 0 m ≡ Some stage
first_longer passes n m stage e le =
    let f : IsFirst passes 0 n stage = first_found passes 0 n stage e in
    first_from passes 0 m stage (record { low = f.low; high = omega (arith, f.high); passes_it = f.passes_it; none_before = f.none_before })
