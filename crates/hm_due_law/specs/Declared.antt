-- How a history goes with the declared list, the entries that are committed for good.
use Rattle.std.specs.Prelude.{◌≡◌, ℕ, ◌≤◌, Bool, true, false, List, filter, Some, All}
use Rattle.hm_base.specs.declared.stamp.Stamp.{Stamp}
use Rattle.hm_base.specs.declared.entry.Entry.{Entry}
use Rattle.hm_base.specs.declared.entry.Act.{Act}
use Rattle.hm_base.specs.declared.entry.Act.TheVariants.{Put, Look}
use Rattle.hm_base.specs.declared.operation.OpId.{OpId}
use Rattle.hm_base.specs.Logs.{is_write}
use Rattle.hm_base.specs.Stamps.{◌≺◌}
use Rattle.hm_order.specs.declared.mark.Mark.{Mark}
use Rattle.hm_order.specs.declared.mark.Mark.TheVariants.{Invoke, Commit, Reply}
use Rattle.hm_order.specs.declared.mark.Want.{Want}
use Rattle.hm_order.specs.declared.mark.Want.TheVariants.{Read, Write}
use Rattle.hm_order.specs.Marks.{At, op_of, commits_for, invoked_at, want_of}
use Rattle.hm_due_law.specs.Tidy.{IsTidy}

abbrev pub wanted : ℕ → Act → Want
wanted object (Put value) = Write object value
wanted object Look = Read object

-- the entry's operation was invoked, for what the entry does
abbrev pub WasInvoked : List Mark → Entry → Type 0
WasInvoked history e = want_of history (op_of e) ≡ Some (wanted e.object e.act)

abbrev pub is_commit : Mark → Bool
is_commit (Invoke op want) = false
is_commit (Commit op stamp) = true
is_commit (Reply op version answer) = false

-- the Commits of a history, in order
abbrev pub commit_marks : List Mark → List Mark
commit_marks history = filter is_commit history

-- The history's Commits are those of the declared list, which is tidy, and whose operations were all invoked.
pub record Records (history : List Mark) (declared : List Entry) : Type 0 where
  pub tidy : IsTidy declared
  pub commits : commit_marks history ≡ commits_for declared
  pub invoked : All (WasInvoked history) declared

-- each Commit with a stamp above that of a declared logged read stands after that read's Invoke
abbrev pub LooksComeFirst : List Mark → List Entry → Type 0
LooksComeFirst history declared = (i k : ℕ) (look : Entry) (op : OpId) (stamp : Stamp) → At declared i look → is_write look ≡ false → At history k (Commit op stamp) → look.stamp ≺ stamp → invoked_at history (op_of look) ≤ k

-- no Commit is of a later switch
abbrev pub NoneAbove : List Mark → ℕ → Type 0
NoneAbove history switch = (k : ℕ) (op : OpId) (stamp : Stamp) → At history k (Commit op stamp) → stamp.switch ≤ switch
