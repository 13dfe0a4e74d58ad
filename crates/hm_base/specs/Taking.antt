-- How a page of another's log is taken in: it extends the staged list while there is one, else the log. A page and its
-- answers are this project's own form of what a new primary or a predecessor sends (after van Renesse and Schneider, and
-- Liskov and Cowling).
use Rattle.std.specs.Prelude.{ℕ, ◌+◌, ◌-◌, max, ◌==◌, nat_lt, nat_le, if◌then◌else◌, List, ◌++◌, length, drop, filter, fold, count_by, Option, Some, None}
use Rattle.hm_base.specs.declared.entry.Entry.{Entry}

pub data Took : Type 0 where
  Adopted : Took  -- the staged list has become the log
  Staged : Took
  Grown : Took  -- the log has new entries
  Same : Took
  Gap : Took  -- what stands before the page is missing; nothing changes
  LogFull : Took  -- the page reaches past the log's bound; nothing changes

pub record Taken : Type 0 where
  pub log : List Entry
  pub staged : Option (List Entry)
  pub took : Took

-- the list that a page extends
abbrev pub held : List Entry → Option (List Entry) → List Entry
held log None = log
held log (Some staged) = staged

-- the list with the page's entries that lie past its end
abbrev pub extended : List Entry → ℕ → List Entry → List Entry
extended list first entries = list ++ drop (length list - first) entries

-- the longer list is the log; a staged one becomes the log once it has reached the start of the view
abbrev pub grown : List Entry → Option (List Entry) → ℕ → List Entry → Taken
grown log None start list = record { log = list; staged = None; took = if length log == length list then Took.Same else Took.Grown }
grown log (Some staged) start list =
    if nat_le start (length list) then record { log = list; staged = None; took = Took.Adopted }
    else record { log = log; staged = Some list; took = Took.Staged }

-- log and staged list after a page of the entries from `first` on, in a view that starts with `start` entries
abbrev pub take_page : ℕ → List Entry → Option (List Entry) → ℕ → ℕ → List Entry → Taken
take_page cap log staged start first entries =
    if nat_lt (length (held log staged)) first then record { log = log; staged = staged; took = Took.Gap }
    else if nat_lt cap (first + length entries) then record { log = log; staged = staged; took = Took.LogFull }
    else grown log staged start (extended (held log staged) first entries)

-- the greatest of these lengths that at least k of them reach, 0 where there is none
abbrev pub held_by : ℕ → List ℕ → ℕ
held_by k lengths = fold max 0 (filter (λ m. nat_le k (count_by (λ l. nat_le m l) lengths)) lengths)
