-- Replies that are due, and what answers of reads rest on.
use Rattle.std.specs.Prelude.{◌≡◌, ℕ, ◌<◌, ◌≤◌, true, List, length, Some}
use Rattle.hm_base.specs.declared.stamp.Stamp.{Stamp}
use Rattle.hm_base.specs.declared.entry.Entry.{Entry}
use Rattle.hm_base.specs.declared.operation.Answer.{Answer}
use Rattle.hm_base.specs.declared.operation.OpId.{OpId}
use Rattle.hm_base.specs.Lists.{IsPrefix}
use Rattle.hm_base.specs.Logs.{is_write, end_stamp}
use Rattle.hm_base.specs.Stamps.{◌≺◌}
use Rattle.hm_order.specs.declared.mark.Mark.{Mark}
use Rattle.hm_order.specs.declared.mark.Want.TheVariants.{Read}
use Rattle.hm_order.specs.Marks.{At, invoked_at, want_of}
use Rattle.hm_order.specs.Legal.{WritesAt, IsDue}
use Rattle.hm_due_law.specs.Tidy.{HasWrite}
use Rattle.hm_due_law.specs.Declared.{Records}

-- a Reply of the operation with this version and answer is due where it is put behind the history now
abbrev pub IsDueNow : List Mark → OpId → Stamp × Answer → Type 0
IsDueNow history op reply = IsDue history (length history) op reply.0 reply.1

-- A read that is answered from a prefix of the declared list: each Commit of a write of its object that lies beyond the prefix
-- stands after the read's Invoke.
pub record PrefixAnswer (history : List Mark) (declared applied : List Entry) (op : OpId) (object : ℕ) : Type 0 where
  pub records : Records history declared
  pub prefix : IsPrefix applied declared
  pub read : want_of history op ≡ Some (Read object)
  pub later : (k : ℕ) (write : WritesAt history object k) → end_stamp applied ≺ write.stamp → invoked_at history op ≤ k

-- A read that a switch stamped: the list has the write of that stamp, and each Commit of a write of the read's object with a
-- higher number of the same switch stands after the read's Invoke.
pub record IsFresh (history : List Mark) (declared : List Entry) (op : OpId) (object : ℕ) (stamp : Stamp) : Type 0 where
  pub above : 0 < stamp.seq
  pub read : want_of history op ≡ Some (Read object)
  pub point : HasWrite declared stamp
  pub later : (k : ℕ) (write : WritesAt history object k) → write.stamp.switch ≡ stamp.switch → stamp.seq < write.stamp.seq → invoked_at history op ≤ k

-- no write of the object in the list has a higher number of the stamp's switch
abbrev pub IsClean : List Entry → ℕ → Stamp → Type 0
IsClean declared object stamp = (i : ℕ) (e : Entry) → At declared i e → is_write e ≡ true → e.object ≡ object → e.stamp.switch ≡ stamp.switch → e.stamp.seq ≤ stamp.seq
