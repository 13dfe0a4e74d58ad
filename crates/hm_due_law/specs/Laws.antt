-- What the laws say that proofs above take as an argument: each is the clause of the function of its name.
use Rattle.std.specs.Prelude.{◌≡◌, ℕ, ◌<◌, ◌≤◌, true, false, List, [], ◌∷◌, ◌++◌, length, Some, All}
use Rattle.hm_base.specs.declared.stamp.Stamp.{Stamp}
use Rattle.hm_base.specs.declared.entry.Entry.{Entry}
use Rattle.hm_base.specs.declared.operation.Answer.{Answer}
use Rattle.hm_base.specs.declared.operation.Answer.TheVariants.{Wrote}
use Rattle.hm_base.specs.declared.operation.OpId.{OpId}
use Rattle.hm_base.specs.declared.verdict.Admit.TheVariants.{Take}
use Rattle.hm_base.specs.declared.verdict.Verdict.TheVariants.{New, Again}
use Rattle.hm_base.specs.Lists.{IsPrefix}
use Rattle.hm_base.specs.Logs.{is_write, end_stamp, latest, read_ahead, read_behind}
use Rattle.hm_base.specs.Verdicts.{admission, judge}
use Rattle.hm_order.specs.declared.mark.Mark.{Mark}
use Rattle.hm_order.specs.declared.mark.Mark.TheVariants.{Invoke, Reply}
use Rattle.hm_order.specs.declared.mark.Want.{Want}
use Rattle.hm_order.specs.declared.mark.Want.TheVariants.{Read}
use Rattle.hm_order.specs.Marks.{At, op_of, commits_for, invoked_at, replied_at, want_of}
use Rattle.hm_order.specs.Legal.{IsWellFormed}
use Rattle.hm_due_law.specs.Tidy.{IsTidy, HasWrite}
use Rattle.hm_due_law.specs.Declared.{WasInvoked, Records, LooksComeFirst, NoneAbove}
use Rattle.hm_due_law.specs.Answers.{IsDueNow, IsFresh, IsClean}
use Rattle.hm_due_law.specs.Agreed.{Agree}

abbrev pub WholeListAnswerIsDue : Type 0
WholeListAnswerIsDue = (history : List Mark) (declared : List Entry) (op : OpId) (object : ℕ)
    → Records history declared
    → want_of history op ≡ Some (Read object)
    → IsDueNow history op (latest declared object)

abbrev pub AnswerAheadIsDue : Type 0
AnswerAheadIsDue = (history : List Mark) (declared log : List Entry) (op : OpId) (object accepted : ℕ) (stamp : Stamp) (reply : Stamp × Answer)
    → Records history declared
    → want_of history op ≡ Some (Read object)
    → HasWrite declared stamp
    → IsPrefix declared log
    → IsTidy log
    → read_ahead accepted log stamp object ≡ Some reply
    → IsDueNow history op reply

abbrev pub AnswerBehindIsDue : Type 0
AnswerBehindIsDue = (history : List Mark) (declared applied : List Entry) (op : OpId) (object accepted : ℕ) (stamp : Stamp) (reply : Stamp × Answer)
    → Records history declared
    → IsPrefix applied declared
    → IsFresh history declared op object stamp
    → NoneAbove history accepted
    → read_behind accepted applied stamp object ≡ Some reply
    → IsDueNow history op reply

abbrev pub LookAnswerIsDue : Type 0
LookAnswerIsDue = (history : List Mark) (declared applied : List Entry) (place : ℕ) (look : Entry)
    → Records history declared
    → LooksComeFirst history declared
    → IsPrefix applied declared
    → At applied place look
    → is_write look ≡ false
    → IsDueNow history (op_of look) (latest applied look.object)

abbrev pub CompletionIsDue : Type 0
CompletionIsDue = (history : List Mark) (declared : List Entry) (place : ℕ) (write : Entry)
    → Records history declared
    → At declared place write
    → is_write write ≡ true
    → IsDueNow history (op_of write) (write.stamp, Wrote)

abbrev pub DueReplyStaysDue : Type 0
DueReplyStaysDue = (history later : List Mark) (op : OpId) (reply : Stamp × Answer)
    → IsPrefix history later
    → IsWellFormed history
    → IsDueNow history op reply
    → IsDueNow later op reply

abbrev pub CleanReadIsFresh : Type 0
CleanReadIsFresh = (history : List Mark) (declared : List Entry) (op : OpId) (object : ℕ) (stamp : Stamp)
    → Records history declared
    → 0 < stamp.seq
    → want_of history op ≡ Some (Read object)
    → HasWrite declared stamp
    → IsClean declared object stamp
    → IsFresh history declared op object stamp

abbrev pub FreshReadStaysFresh : Type 0
FreshReadStaysFresh = (history later : List Mark) (declared longer : List Entry) (op : OpId) (object : ℕ) (stamp : Stamp)
    → IsPrefix history later
    → IsPrefix declared longer
    → IsWellFormed history
    → IsFresh history declared op object stamp
    → IsFresh later longer op object stamp

abbrev pub InvocationKeepsAgreement : Type 0
InvocationKeepsAgreement = (history : List Mark) (declared : List Entry) (op : OpId) (want : Want)
    → Agree history declared
    → length history ≤ invoked_at history op
    → Agree (history ++ Invoke op want ∷ []) declared

abbrev pub DeclaringKeepsAgreement : Type 0
DeclaringKeepsAgreement = (history : List Mark) (declared entries : List Entry)
    → Agree history declared
    → IsTidy (declared ++ entries)
    → All (WasInvoked history) entries
    → Agree (history ++ commits_for entries) (declared ++ entries)

abbrev pub DueReplyKeepsAgreement : Type 0
DueReplyKeepsAgreement = (history : List Mark) (declared : List Entry) (op : OpId) (reply : Stamp × Answer)
    → Agree history declared
    → length history ≤ replied_at history op
    → IsDueNow history op reply
    → Agree (history ++ Reply op reply.0 reply.1 ∷ []) declared

abbrev pub PrefixIsTidy : Type 0
PrefixIsTidy = (front whole : List Entry) → IsPrefix front whole → IsTidy whole → IsTidy front

abbrev pub AdmittedWriteKeepsTidy : Type 0
AdmittedWriteKeepsTidy = (accepted : ℕ) (log : List Entry) (write : Entry)
    → IsTidy log
    → is_write write ≡ true
    → admission accepted log write.stamp write.client write.request ≡ Take
    → IsTidy (log ++ write ∷ [])

abbrev pub LoggedReadKeepsTidy : Type 0
LoggedReadKeepsTidy = (log : List Entry) (look : Entry)
    → IsTidy log
    → is_write look ≡ false
    → look.stamp ≡ end_stamp log
    → judge log look.client look.request ≡ New
    → IsTidy (log ++ look ∷ [])

abbrev pub RepeatedRequestStands : Type 0
RepeatedRequestStands = (log : List Entry) (client request index : ℕ)
    → judge log client request ≡ Again index
    → (e : Entry) × At log index e × (e.client ≡ client) × (e.request ≡ request)
