-- The rules' clients for those of the code.
use Rattle.std.specs.Prelude.{ℕ, List, map, find, unwrap_or, None, ◌==◌}
use Rattle.hm_rules.specs.World as rule
use Rattle.hm_parts.specs.declared.clients.ClientState.{ClientState}

abbrev pub client_at : ℕ → ClientState → rule.Client
client_at number c = record { client = number; request = c.request; outstanding = c.outstanding }

abbrev pub client_of_entry : ℕ × ClientState → rule.Client
client_of_entry e = client_at e.0 e.1

abbrev pub clients_of : List (ℕ × ClientState) → List rule.Client
clients_of entries = map client_of_entry entries

-- the client of this number among these, as the rules find it
abbrev pub client_in : List rule.Client → ℕ → rule.Client
client_in clients number = unwrap_or (find (λ (k : rule.Client). k.client == number) clients) (record { client = number; request = 0; outstanding = None })
