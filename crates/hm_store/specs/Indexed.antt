-- What holds of a ledger's fields.
use Rattle.std.specs.Prelude.{◌≡◌, ℕ, ◌≤◌, if◌then◌else◌, length, map, Option, Some, None, vec_capacity}
use Rattle.hm_base.specs.declared.entry.Entry.{Entry}
use Rattle.hm_base.specs.Logs.{is_write}
use Rattle.hm_store.specs.declared.ledger.Ledger.TheInside.{Inside}
use Rattle.hm_store.specs.Log.{Log, max_log_len}

abbrev pub log_of : Inside → Log
log_of l = record { entries = l.entries.items; applied = l.applied_len; cap = l.cap }

-- the object that an entry writes, if it is a write
abbrev pub written_object : Entry → Option ℕ
written_object e = if is_write e then Some e.object else None

-- Each entry has the object that it writes for its key, and the room for `cap` entries is there.
pub record IsIndexed (l : Inside) : Type 0 where
  pub applied_within : l.applied_len ≤ length l.entries.items
  pub within : length l.entries.items ≤ l.cap
  pub bounded : l.cap ≤ max_log_len
  pub writes : l.writes.items ≡ map written_object l.entries.items
  pub entries_room : l.cap ≤ vec_capacity l.entries
  pub writes_room : l.writes.cap ≡ l.cap
