-- Bounds on steps.
use Rattle.std.proofs.Common.{ℕ, ◌+◌, ◌≤◌, arith}
use Rattle.hm_base.specs.declared.steps.Steps.{Steps}
use Rattle.hm_base.specs.StepCounts.{TakesAtMost}

pub takes_none : {L : Type 0} (counts : L → ℕ → Type 0) (steps : Steps L) → TakesAtMost counts steps steps 0
takes_none counts steps = λ n h. (n, omega arith, omega arith, h)

pub takes_then : {L : Type 0} (counts : L → ℕ → Type 0) (a b c : Steps L) (m n : ℕ) → TakesAtMost counts a b m → TakesAtMost counts b c n → TakesAtMost counts a c (m + n)
takes_then counts a b c m n f g = λ k h.
    let first = f k h in
    let second = g first.0 first.3 in
    (second.0, omega (arith, first.1, second.1), omega (arith, first.2, second.2), second.3)

pub takes_fewer : {L : Type 0} (counts : L → ℕ → Type 0) (a b : Steps L) (m n : ℕ) → TakesAtMost counts a b m → m ≤ n → TakesAtMost counts a b n
takes_fewer counts a b m n f le = λ k h. let first = f k h in (first.0, first.1, omega (arith, first.2), first.3)
