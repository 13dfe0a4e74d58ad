-- What a follower answers to a page.
use Rattle.std.specs.Prelude.{ℕ, ◌+◌, ◌-◌, ◌≤◌, Bool, true, false, ◌==◌, nat_lt, if◌then◌else◌, List, ◌++◌, length, Option, Some, None, Result, Ok, Err, IfSome}
use Rattle.hm_base.specs.declared.entry.Entry.{Entry}
use Rattle.hm_base.specs.Taking as taking
use Rattle.hm_base.specs.Taking.{Taken, held, take_page}
use Rattle.hm_packet.specs.declared.body.Feed.{Feed}
use Rattle.hm_shim.specs.State.{State, applied_entries}
use Rattle.hm_feed.specs.declared.follower.Took.{Took}
use Rattle.hm_feed.specs.declared.follower.Took.TheVariants as took

-- what contracts see of a follower: what is staged behind the applied prefix, if it stages, and how many entries that may be
pub record Following : Type 0 where
  pub behind : Option (List Entry)
  pub cap : ℕ

-- the staged list: the applied prefix, and what stands behind it
abbrev pub staged_on : State → Option (List Entry) → Option (List Entry)
staged_on shim None = None
staged_on shim (Some behind) = Some (applied_entries shim ++ behind)

-- the staged list fits into the log
abbrev pub HasRoom : State → Option (List Entry) → Type 0
HasRoom shim behind = IfSome behind (λ list. shim.applied + length list ≤ shim.cap)

abbrev pub staged_list : Bool → List Entry → Option (List Entry)
staged_list staging list = if staging then Some list else None

-- log and staged list after the page
abbrev pub taken : State → Option (List Entry) → Feed → Taken
taken shim staged feed = take_page shim.cap shim.entries staged feed.start feed.first feed.entries

-- the same where the staged list has the page's entries already, in a view that starts with `start` entries
abbrev pub staged_from : State → List Entry → ℕ → Taken
staged_from shim staged start = taking.grown shim.entries (Some staged) start staged

abbrev pub answered : taking.Took → ℕ → Took
answered taking.Took.Adopted len = took.Adopted len
answered taking.Took.Staged len = took.Staged len
answered taking.Took.Grown len = took.Grown len
answered taking.Took.Same len = took.Same len
answered taking.Took.Gap len = took.Gap
answered taking.Took.LogFull len = took.LogFull

-- with the length that is held afterwards
abbrev pub answer : Taken → Took
answer t = answered t.took (length (held t.log t.staged))

-- whether the staged list is still one
abbrev pub stages_on : Took → Bool
stages_on (took.Adopted len) = false
stages_on other = true

abbrev pub grown : ℕ → ℕ → Took
grown before len = if len == before then took.Same len else took.Grown len

-- the place in a page of `count` entries, the first of which is that of index `first`, from which on it is new to one who holds so
-- many, or why it isn't taken
abbrev pub new_from : ℕ → ℕ → ℕ → ℕ → Result ℕ Took
new_from cap length_held first count =
    if nat_lt length_held first then Err took.Gap
    else if nat_lt cap (first + count) then Err took.LogFull
    else Ok (length_held - first)
