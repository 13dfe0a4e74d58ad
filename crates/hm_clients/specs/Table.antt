-- What contracts see of a client table, and which logs it stands for.
use Rattle.std.specs.Prelude.{◌≡◌, ℕ, ◌+◌, List, [], ◌∷◌, length, nat_eq, if◌then◌else◌, Option}
use Rattle.std.specs.Map.{lookup}
use Rattle.hm_base.specs.declared.entry.Entry.{Entry}
use Rattle.hm_base.specs.declared.verdict.LatestRequest.{LatestRequest}
use Rattle.hm_base.specs.Logs.{is_newer}

-- the requests that were their client's latest when they were noted, the last one first, how many entries were noted, and how many may be
pub record Table : Type 0 where
  pub latest : List (ℕ × LatestRequest)
  pub count : ℕ
  pub cap : ℕ

abbrev pub latest_of : Table → ℕ → Option LatestRequest
latest_of table client = lookup (nat_eq client) table.latest

-- the requests with that of the entry at this index in front, where it is above its client's latest
abbrev pub with_noted : ℕ → List (ℕ × LatestRequest) → Entry → List (ℕ × LatestRequest)
with_noted index requests e =
    if is_newer (lookup (nat_eq e.client) requests) e.request then (e.client, record { request = e.request; index = index }) ∷ requests else requests

-- the same for the entries from this index on
abbrev pub noted_from : ℕ → List (ℕ × LatestRequest) → List Entry → List (ℕ × LatestRequest)
noted_from index requests [] = requests
noted_from index requests (e ∷ es) = noted_from (index + 1) (with_noted index requests e) es

-- the table is that of this log
pub record StandsFor (table : Table) (log : List Entry) : Type 0 where
  pub latest : table.latest ≡ noted_from 0 [] log
  pub count : table.count ≡ length log
