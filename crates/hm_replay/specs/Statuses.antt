-- How a run ends, and with which status its program ends then.
use Rattle.std.specs.Prelude.{◌≡◌, ℕ, List, Option, Result, Ok, Err}
use Rattle.hm_outside.specs.Faults.{Faults, IsQuiet, ReadFailed, PutFailed}
use Rattle.hm_outside.specs.declared.device.NotPut.{NotPut}
use Rattle.hm_outside.specs.declared.device.NotPut.TheVariants as not_put
use Rattle.hm_replay.specs.Replays.{IsWholeRun, IsRefusedRun, IsCutRun, IsPartialRun}
use Rattle.hm_schedule.specs.declared.refusal.Refusal.{Refusal}
use Rattle.hm_schedule.specs.declared.refusal.Refusal.TheVariants as refusal
use Rattle.hm_show.specs.declared.show.Shown.{Shown}
use Rattle.hm_show.specs.declared.show.Shown.TheVariants as shown
use Rattle.hm_show.specs.Shows.{Shows}
use Rattle.hm_replay.specs.declared.status.Status.{Status}
use Rattle.hm_replay.specs.declared.status.Status.TheVariants as status

abbrev pub code_of : Status → ℕ
code_of status.Done = 0
code_of status.BadWords = 2
code_of (status.BadLine line reason) = 3
code_of (status.BadFrame frame at reason) = 3
code_of status.ReadFault = 4
code_of status.WriteFault = 5
code_of (status.TooLong line) = 6
code_of status.NoMemory = 7

-- the status after a show
abbrev pub status_of : Shown → Status
status_of shown.Done = status.Done
status_of (shown.BadFrame number fault) = status.BadFrame number fault.at fault.reason
status_of shown.ReadFault = status.ReadFault
status_of shown.WriteFault = status.WriteFault
status_of (shown.TooLong number) = status.TooLong number
status_of shown.NoMemory = status.NoMemory

-- the status where the line of this number is refused
abbrev pub refused : ℕ → Refusal → Status
refused line refusal.TooLong = status.TooLong line
refused line (refusal.Bad reason) = status.BadLine line reason

-- the status behind the end of a run's text, which is this one where all of it was put
abbrev pub ended : {T : Type 0} → Result T NotPut → Status → Status
ended (Ok done) whole = whole
ended (Err not_put.Failed) whole = status.WriteFault
ended (Err not_put.NoMemory) whole = status.NoMemory

-- How a replay ends: with one of these statuses, and what it read and put then. A fault comes exactly where a call of the device failed.
abbrev pub Ends : Status → Option (List ℕ) → Option (List ℕ) → Option (List ℕ) → Option (List ℕ) → Faults → Type 0
Ends status.Done left now held put f = IsQuiet f × IsWholeRun left now held put
Ends status.BadWords left now held put f = ⊥
Ends (status.BadLine line reason) left now held put f = IsQuiet f × IsRefusedRun left held put line (refusal.Bad reason)
Ends (status.BadFrame frame at reason) left now held put f = ⊥
Ends status.ReadFault left now held put f = ReadFailed f × IsCutRun left now held put
Ends status.WriteFault left now held put f = PutFailed f × IsPartialRun left now held put
Ends (status.TooLong line) left now held put f = IsQuiet f × IsRefusedRun left held put line refusal.TooLong
Ends status.NoMemory left now held put f = IsQuiet f × IsPartialRun left now held put

-- how a show ends: with the status of one of its answers, and with what that owes
pub record EndsShow (result : Status) (left now held put : Option (List ℕ)) (f : Faults) : Type 0 where
  pub answer : Shown
  pub status_is : result ≡ status_of answer
  pub shows : Shows answer left now held put f
