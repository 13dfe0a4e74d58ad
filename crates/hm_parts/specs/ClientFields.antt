-- What contracts see of the clients, and what holds of the fields.
use Rattle.std.specs.Prelude.{ℕ, ◌+◌, ◌≤◌, All}
use Rattle.indexmap.specs.IndexMap.{spare}
use Rattle.hm_parts.specs.Seen.{Known}
use Rattle.hm_parts.specs.ClientsAt.{clients_of}
use Rattle.hm_parts.specs.declared.clients.ClientState.{ClientState}
use Rattle.hm_parts.specs.declared.clients.Clients.TheInside.{Inside}

abbrev pub known_of : Inside → Known
known_of c = record { clients = clients_of c.states.entries; kept = c.kept; limit = c.limit }

pub record IsKept (c : Inside) : Type 0 where
  pub requests : All (λ (e : ℕ × ClientState). e.1.request ≤ c.kept) c.states.entries
  pub room : c.limit ≤ c.kept + spare c.states
