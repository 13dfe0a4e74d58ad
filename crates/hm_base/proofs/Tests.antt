-- A test of all numbers below a bound, which computes.
use Rattle.std.proofs.Common.{◌≡◌, ℕ, zero, suc, ◌<◌, Bool, true, ◌&&◌, subst, sym, inl, inr, arith}
use Rattle.std.proofs.lemmas.Bool.{and_parts, cases_lt}

abbrev pub all_below : (ℕ → Bool) → ℕ → Bool
all_below test zero = true
all_below test (suc n) = test n && all_below test n

pub at_below : (test : ℕ → Bool) (n k : ℕ) → all_below test n ≡ true → k < n → test k ≡ true
at_below test zero k passes h = absurd (omega arith)
at_below test (suc n) k passes h = elim (cases_lt k n) [
  | inl lower ↦ at_below test n k (and_parts (test n) (all_below test n) passes).1 lower
  | inr last ↦ subst (λ (m : ℕ). test m ≡ true) (sym (omega arith)) (and_parts (test n) (all_below test n) passes).0
]
