-- When an order explains a history, when a history is well formed, and when its replies are due.
use Rattle.std.specs.Prelude.{◌≡◌, ◌≢◌, ℕ, ◌<◌, ◌≤◌, if◌then◌else◌, List, [], ◌∷◌, length, take, nat_eq, Option, Some, None, Contains}
use Rattle.hm_base.specs.declared.stamp.Stamp.{Stamp}
use Rattle.hm_order.specs.declared.mark.Mark.{Mark}
use Rattle.hm_order.specs.declared.mark.Mark.TheVariants.{Invoke, Commit, Reply}
use Rattle.hm_base.specs.declared.operation.OpId.{OpId}
use Rattle.hm_order.specs.declared.mark.Want.{Want}
use Rattle.hm_order.specs.declared.mark.Want.TheVariants.{Read, Write}
use Rattle.hm_base.specs.declared.operation.Answer.{Answer}
use Rattle.hm_base.specs.declared.operation.Answer.TheVariants.{Wrote, Nothing}
use Rattle.hm_base.specs.Logs.{found}
use Rattle.hm_base.specs.Stamps.{least}
use Rattle.hm_order.specs.Marks.{At, invoked_at, want_of}

-- what a store says of the object after one more op, where it said `answer` before
abbrev pub after_op : ℕ → Answer → Option Want → Answer
after_op object answer None = answer
after_op object answer (Some (Read other)) = answer
after_op object answer (Some (Write other value)) = if nat_eq other object then found value else answer

-- the same after more ops in a row
abbrev pub stored : List Mark → ℕ → Answer → List OpId → Answer
stored history object answer [] = answer
stored history object answer (op ∷ ops) = stored history object (after_op object answer (want_of history op)) ops

pub record IsLegal (history : List Mark) (order : List OpId) : Type 0 where
  pub once : (k l : ℕ) (op : OpId) → At order k op → At order l op → k ≡ l
  pub invoked : (k : ℕ) (op : OpId) → At order k op → invoked_at history op < length history
  pub committed : (i : ℕ) (op : OpId) (stamp : Stamp) → At history i (Commit op stamp) → Contains order op
  pub replied : (i : ℕ) (op : OpId) (version : Stamp) (answer : Answer) → At history i (Reply op version answer) → Contains order op
  -- a reply that was taken before a later invocation
  pub real_time : (i j k l : ℕ) (a b : OpId) (version : Stamp) (answer : Answer) (want : Want) → At history i (Reply a version answer) → At history j (Invoke b want) → i < j → At order k a → At order l b → k < l
  pub wrote : (i : ℕ) (op : OpId) (version : Stamp) (answer : Answer) (object : ℕ) (value : List ℕ) → At history i (Reply op version answer) → want_of history op ≡ Some (Write object value) → answer ≡ Wrote
  -- as one store answers that takes the ops in order
  pub read : (i k : ℕ) (op : OpId) (version : Stamp) (answer : Answer) (object : ℕ) → At history i (Reply op version answer) → want_of history op ≡ Some (Read object) → At order k op → answer ≡ stored history object Nothing (take k order)

pub record IsWellFormed (history : List Mark) : Type 0 where
  pub invoked_once : (i j : ℕ) (op : OpId) (want want' : Want) → At history i (Invoke op want) → At history j (Invoke op want') → i ≡ j
  pub committed_once : (i j : ℕ) (op : OpId) (stamp stamp' : Stamp) → At history i (Commit op stamp) → At history j (Commit op stamp') → i ≡ j
  pub replied_once : (i j : ℕ) (op : OpId) (version version' : Stamp) (answer answer' : Answer) → At history i (Reply op version answer) → At history j (Reply op version' answer') → i ≡ j
  pub writes_commit : (i : ℕ) (op : OpId) (stamp : Stamp) → At history i (Commit op stamp) → (j : ℕ) × (object : ℕ) × (value : List ℕ) × (j < i) × At history j (Invoke op (Write object value))
  pub invoked_first : (i : ℕ) (op : OpId) (version : Stamp) (answer : Answer) → At history i (Reply op version answer) → (j : ℕ) × (want : Want) × (j < i) × At history j (Invoke op want)
  pub stamps_apart : (i j : ℕ) (a b : OpId) (stamp : Stamp) → At history i (Commit a stamp) → At history j (Commit b stamp) → i ≡ j
  pub above_least : (i : ℕ) (op : OpId) (stamp : Stamp) → At history i (Commit op stamp) → stamp ≢ least

-- the Commit of a write of this object stands at k
pub record WritesAt (history : List Mark) (object k : ℕ) : Type 0 where
  pub writer : OpId
  pub stamp : Stamp
  pub value : List ℕ
  pub commit : At history k (Commit writer stamp)
  pub want : want_of history writer ≡ Some (Write object value)

-- the write that a read's Reply at i answers from
pub record IsSeen (history : List Mark) (i object : ℕ) (reader : OpId) (version : Stamp) (answer : Answer) : Type 0 where
  pub place : ℕ
  pub write : WritesAt history object place
  pub earlier : place < i
  pub same : write.stamp ≡ version
  pub answered : answer ≡ found write.value
  -- no other one before the read's Invoke
  pub last : (k : ℕ) → WritesAt history object k → place < k → invoked_at history reader ≤ k

-- a Reply at i is to an op that was invoked before, and says what it may say
pub record IsDue (history : List Mark) (i : ℕ) (op : OpId) (version : Stamp) (answer : Answer) : Type 0 where
  pub invoked : invoked_at history op < i
  pub wrote : (object : ℕ) (value : List ℕ) → want_of history op ≡ Some (Write object value) → answer ≡ Wrote
  pub committed : (object : ℕ) (value : List ℕ) → want_of history op ≡ Some (Write object value) → (k : ℕ) × (k < i) × At history k (Commit op version)
  pub nothing : (object : ℕ) → want_of history op ≡ Some (Read object) → version ≡ least → answer ≡ Nothing
  pub unwritten : (object : ℕ) → want_of history op ≡ Some (Read object) → version ≡ least → (k : ℕ) → WritesAt history object k → invoked_at history op ≤ k
  pub seen : (object : ℕ) → want_of history op ≡ Some (Read object) → version ≢ least → IsSeen history i object op version answer

-- each of its replies
abbrev pub AllDue : List Mark → Type 0
AllDue history = (i : ℕ) (op : OpId) (version : Stamp) (answer : Answer) → At history i (Reply op version answer) → IsDue history i op version answer
