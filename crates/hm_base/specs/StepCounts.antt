-- How many steps a call takes.
use Rattle.std.specs.Prelude.{ℕ, ◌+◌, ◌≤◌}
use Rattle.hm_base.specs.declared.steps.Steps.{Steps}

abbrev pub ledger_of : {L : Type 0} → Steps L → L
ledger_of steps = steps.ledger

-- at most so many steps were taken between the two, by what the ledger counts
abbrev pub TakesAtMost : {L : Type 0} → (L → ℕ → Type 0) → Steps L → Steps L → ℕ → Type 0
TakesAtMost counts old new most = (n : ℕ) → counts (ledger_of old) n → (m : ℕ) × (n ≤ m) × (m ≤ n + most) × counts (ledger_of new) m
