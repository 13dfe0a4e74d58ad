-- Where the marks of a history stand.
use Rattle.std.specs.Prelude.{◌≡◌, ℕ, Bool, false, ◌&&◌, ◌==◌, if◌then◌else◌, List, length, map, nat_lt, Option, Some, None, slice_get}
use Rattle.std.specs.List.{position_or_len}
use Rattle.hm_base.specs.declared.stamp.Stamp.{Stamp}
use Rattle.hm_base.specs.declared.entry.Entry.{Entry}
use Rattle.hm_base.specs.Logs.{writes}
use Rattle.hm_base.specs.Stamps.{least, same_stamp}
use Rattle.hm_order.specs.declared.mark.Mark.{Mark}
use Rattle.hm_order.specs.declared.mark.Mark.TheVariants.{Invoke, Commit, Reply}
use Rattle.hm_base.specs.declared.operation.OpId.{OpId}
use Rattle.hm_order.specs.declared.mark.Want.{Want}

-- the item stands at that position of the list, counted from 0
abbrev pub At : {A : Type 0} → List A → ℕ → A → Type 0
At items i item = slice_get items i ≡ Some item

abbrev pub same_op : OpId → OpId → Bool
same_op a b = (a.client == b.client) && (a.request == b.request)

abbrev pub invokes : OpId → Mark → Bool
invokes op (Invoke other want) = same_op op other
invokes op (Commit other stamp) = false
invokes op (Reply other version answer) = false

abbrev pub commits : OpId → Mark → Bool
commits op (Invoke other want) = false
commits op (Commit other stamp) = same_op op other
commits op (Reply other version answer) = false

abbrev pub commits_with : Stamp → Mark → Bool
commits_with version (Invoke other want) = false
commits_with version (Commit other stamp) = same_stamp version stamp
commits_with version (Reply other version' answer) = false

abbrev pub replies : OpId → Mark → Bool
replies op (Invoke other want) = false
replies op (Commit other stamp) = false
replies op (Reply other version answer) = same_op op other

-- the operation that an entry is of
abbrev pub op_of : Entry → OpId
op_of e = record { client = e.client; request = e.request }

-- the mark of an entry that is committed
abbrev pub commit_of : Entry → Mark
commit_of e = Commit (op_of e) e.stamp

-- the marks of entries that are committed: one for each write, in order; a logged read gives none
abbrev pub commits_for : List Entry → List Mark
commits_for entries = map commit_of (writes entries)

-- The position of an op's first Invoke, first Commit, first Reply. It is the number of marks where there is none.
abbrev pub invoked_at : List Mark → OpId → ℕ
invoked_at history op = position_or_len (invokes op) history

abbrev pub committed_at : List Mark → OpId → ℕ
committed_at history op = position_or_len (commits op) history

abbrev pub replied_at : List Mark → OpId → ℕ
replied_at history op = position_or_len (replies op) history

-- the position of the first Commit with this stamp; 0.0 needs none
abbrev pub version_at : List Mark → Stamp → ℕ
version_at history version = if same_stamp version least then 0 else position_or_len (commits_with version) history

abbrev pub is_committed : List Mark → OpId → Bool
is_committed history op = nat_lt (committed_at history op) (length history)

abbrev pub want_in : Option Mark → Option Want
want_in None = None
want_in (Some (Invoke op want)) = Some want
want_in (Some (Commit op stamp)) = None
want_in (Some (Reply op version answer)) = None

-- what the op's first Invoke asks for
abbrev pub want_of : List Mark → OpId → Option Want
want_of history op = want_in (slice_get history (invoked_at history op))

abbrev pub version_in : Option Mark → Option Stamp
version_in None = None
version_in (Some (Invoke op want)) = None
version_in (Some (Commit op stamp)) = None
version_in (Some (Reply op version answer)) = Some version

-- the version in the op's first Reply
abbrev pub version_of : List Mark → OpId → Option Stamp
version_of history op = version_in (slice_get history (replied_at history op))
