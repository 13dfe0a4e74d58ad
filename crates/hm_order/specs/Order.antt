-- The order of a history.
use Rattle.std.specs.Prelude.{ℕ, ◌+◌, max, if◌then◌else◌, List, [], ◌∷◌, ◌++◌, length, filter, nat_eq, Option, Some, None}
use Rattle.hm_base.specs.declared.stamp.Stamp.{Stamp}
use Rattle.hm_order.specs.declared.mark.Mark.{Mark}
use Rattle.hm_order.specs.declared.mark.Mark.TheVariants.{Invoke, Commit, Reply}
use Rattle.hm_base.specs.declared.operation.OpId.{OpId}
use Rattle.hm_order.specs.declared.mark.Want.{Want}
use Rattle.hm_order.specs.declared.mark.Want.TheVariants.{Read, Write}
use Rattle.hm_order.specs.Marks.{invoked_at, committed_at, version_at, is_committed, want_of, version_of}

-- A replied read stands after the first marks that hold its Invoke and the Commit of its version: after how many.
-- One more than there are marks where it has no place.
abbrev pub read_after : List Mark → OpId → Option Want → Option Stamp → ℕ
read_after history op (Some (Read object)) (Some version) = max (invoked_at history op) (version_at history version) + 1
read_after history op (Some (Read object)) None = length history + 1
read_after history op (Some (Write object value)) version = length history + 1
read_after history op None version = length history + 1

-- the same for every op: one with a Commit stands there, and not as a read
abbrev pub read_place : List Mark → OpId → ℕ
read_place history op = if is_committed history op then length history + 1 else read_after history op (want_of history op) (version_of history op)

-- the op that the mark at k invokes for the first time
abbrev pub invoke_here : List Mark → ℕ → Mark → List OpId
invoke_here history k (Invoke op want) = if nat_eq (invoked_at history op) k then op ∷ [] else []
invoke_here history k (Commit op stamp) = []
invoke_here history k (Reply op version answer) = []

-- What each mark gives, with its position, one behind the other. The first of these marks stands at k.
abbrev pub gather : (ℕ → Mark → List OpId) → ℕ → List Mark → List OpId
gather given k [] = []
gather given k (mark ∷ marks) = given k mark ++ gather given (k + 1) marks

-- the ops in the order of their first Invokes
abbrev pub invoked : List Mark → List OpId
invoked history = gather (invoke_here history) 0 history

-- the reads that stand after k marks
abbrev pub reads_after : List Mark → ℕ → List OpId
reads_after history k = filter (λ op. nat_eq (read_place history op) k) (invoked history)

-- the op that the mark at k commits for the first time
abbrev pub commit_here : List Mark → ℕ → Mark → List OpId
commit_here history k (Invoke op want) = []
commit_here history k (Commit op stamp) = if nat_eq (committed_at history op) k then op ∷ [] else []
commit_here history k (Reply op version answer) = []

-- what stands directly behind the mark at k
abbrev pub stands_here : List Mark → ℕ → Mark → List OpId
stands_here history k mark = commit_here history k mark ++ reads_after history (k + 1)

-- Each committed op at its Commit; behind each mark the reads that stand there, in the order of their Invokes.
abbrev pub order : List Mark → List OpId
order history = gather (stands_here history) 0 history
