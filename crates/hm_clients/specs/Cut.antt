-- The requests of a table that are of a log's front.
use Rattle.std.specs.Prelude.{ℕ, List, [], ◌∷◌, nat_lt, if◌then◌else◌}
use Rattle.hm_base.specs.declared.verdict.LatestRequest.{LatestRequest}

-- without those in front that are of entries at the index or behind
abbrev pub noted_below : ℕ → List (ℕ × LatestRequest) → List (ℕ × LatestRequest)
noted_below index [] = []
noted_below index (r ∷ rs) = if nat_lt r.1.index index then r ∷ rs else noted_below index rs
