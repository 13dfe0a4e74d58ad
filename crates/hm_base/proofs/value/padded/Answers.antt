use Rattle.std.proofs.Common.{◌≡◌, ◌++◌, ◌-◌, ℕ, List, length, drop, replicate}
use Rattle.std.proofs.lemmas.List.{drop-replicate}
use Rattle.hm_base.specs.Padded.{max_value_len}
use Rattle.hm_base.proofs.value.padded.Goals as goal

zeros_behind : (n : ℕ) (new bytes : List ℕ) → new ≡ bytes → new ++ drop (length bytes) (replicate n 0) ≡ bytes ++ replicate (n - length bytes) 0
zeros_behind n new bytes same = rw (same, drop-replicate {X = ℕ} (length bytes) n 0)

pub returns : goal.returns
returns c = zeros_behind max_value_len _ _ c.copy_from_slice.ensures.after
