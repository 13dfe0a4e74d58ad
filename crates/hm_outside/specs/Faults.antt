-- Faults of a source or a sink, and what counts them.
use Rattle.std.specs.Prelude.{◌≡◌, ℕ, ◌+◌, ◌-◌, ◌^◌, ◌≤◌, min, Result, MatchResult}

-- a count after one fault more: a counter stands still at the greatest number of 64 bits
abbrev pub one_more : ℕ → ℕ
one_more count = min (count + 1) (2 ^ 64 - 1)

-- a count rose, or stands at the end of its counter
abbrev pub Rose : ℕ → ℕ → Type 0
Rose before after = one_more before ≤ after

-- a call that fails raises the count of faults by one, and no other changes it
abbrev pub Counts : {T E : Type 0} → ℕ → ℕ → Result T E → Type 0
Counts before after result = MatchResult result (λ _. after ≡ before) (λ _. after ≡ one_more before)

-- the counts of a source and a sink before and after a run over them
pub record Faults : Type 0 where
  pub read_before : ℕ
  pub read_after : ℕ
  pub put_before : ℕ
  pub put_after : ℕ

-- no call failed
pub record IsQuiet (f : Faults) : Type 0 where
  pub read : f.read_after ≡ f.read_before
  pub put : f.put_after ≡ f.put_before

-- one call of the source failed, and none of the sink
pub record ReadFailed (f : Faults) : Type 0 where
  pub read : f.read_after ≡ one_more f.read_before
  pub put : f.put_after ≡ f.put_before

-- one call of the sink failed, and none of the source
pub record PutFailed (f : Faults) : Type 0 where
  pub read : f.read_after ≡ f.read_before
  pub put : f.put_after ≡ one_more f.put_before
