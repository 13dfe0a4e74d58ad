-- What contracts see of a sender of pages.
use Rattle.std.specs.Prelude.{ℕ, not, ◌==◌, nat_lt, if◌then◌else◌, List, map, filter, slice_index, slice_set, replicate, Option, Some, None}
use Rattle.hm_base.specs.declared.entry.Entry.{Entry}
use Rattle.hm_base.specs.Logs.{page}
use Rattle.hm_packet.specs.declared.body.Feed.{Feed}

pub record Sending : Type 0 where
  pub view : ℕ
  -- how long the log was with which the view began
  pub start : ℕ
  -- what each replica acknowledged in this view, by its number
  pub acked : List ℕ

-- how many replicas there can be
abbrev pub max_replicas : ℕ
max_replicas = 7

-- nothing is acknowledged yet
abbrev pub opening : ℕ → ℕ → Sending
opening view start = record { view = view; start = start; acked = replicate max_replicas 0 }

abbrev pub acked_by : Sending → ℕ → ℕ
acked_by s replica = slice_index s.acked replica

abbrev pub with_acked : Sending → ℕ → ℕ → Sending
with_acked s replica len = record s { acked = slice_set s.acked replica len }

-- the page of a log for a replica: what it hasn't acknowledged yet
abbrev pub page_to : Sending → List Entry → ℕ → ℕ → Feed
page_to s log commit replica =
    record { view = s.view; start = s.start; first = acked_by s replica; commit = commit; entries = page log (acked_by s replica) }

-- what the members but this one acknowledged
abbrev pub others_acked : Sending → ℕ → List ℕ → List ℕ
others_acked s me members = map (acked_by s) (filter (λ m. not (m == me)) members)

-- a length, where it is above a floor
abbrev pub above : ℕ → ℕ → Option ℕ
above floor len = if nat_lt floor len then Some len else None
