-- What holds of a client table's fields.
use Rattle.std.specs.Prelude.{◌≡◌, ℕ, ◌≤◌, length, map, reverse, Option, Some, slice_get, vec_capacity}
use Rattle.hm_base.specs.declared.verdict.LatestRequest.{LatestRequest}
use Rattle.hm_store.specs.Log.{max_log_len}
use Rattle.hm_clients.specs.declared.table.ClientTable.TheInside.{Inside}
use Rattle.hm_clients.specs.Table.{Table}

-- the requests that were their client's latest when they were noted, the last one first
abbrev pub table_of : Inside → Table
table_of t = record { latest = reverse t.requests.items; count = t.count; cap = t.cap }

abbrev pub client_of : (ℕ × LatestRequest) → Option ℕ
client_of request = Some request.0

-- Each request has its client for its key, and no entry comes before its place; the room for `cap` requests is there.
pub record IsIndexed (t : Inside) : Type 0 where
  pub clients : t.clients.items ≡ map client_of t.requests.items
  pub noted : (i : ℕ) (request : ℕ × LatestRequest) → slice_get t.requests.items i ≡ Some request → i ≤ request.1.index
  pub few : length t.requests.items ≤ t.count
  pub within : t.count ≤ t.cap
  pub bounded : t.cap ≤ max_log_len
  pub requests_room : t.cap ≤ vec_capacity t.requests
  pub clients_room : t.clients.cap ≡ t.cap
