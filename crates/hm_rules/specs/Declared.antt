-- The declared list: the entries that are committed, in the order of the log. It is what an observer sees and no node keeps; the
-- history of the system has a mark for each write that joins it.
use Rattle.std.specs.Prelude.{ℕ, nat_lt, if◌then◌else◌, List, length, take, drop}
use Rattle.hm_base.specs.declared.entry.Entry.{Entry}
use Rattle.hm_order.specs.declared.mark.Mark.{Mark}
use Rattle.hm_order.specs.Marks.{commits_for}

-- where a step declares its log up to a length past the list's end, the list becomes that much of the log
abbrev pub declared_after : List Entry → List Entry → ℕ → List Entry
declared_after declared log to = if nat_lt (length declared) to then take to log else declared

-- the marks of what is new in the list
abbrev pub commits_since : List Entry → List Entry → List Mark
commits_since before after = commits_for (drop (length before) after)
