-- Where a schedule breaks off, and why.
use Rattle.std.specs.Prelude.{◌≡◌, ◌≢◌, ◌≤◌, ◌⊎◌, ℕ, List, [], ◌++◌}
use Rattle.hm_schedule.specs.FirstReasons.{IsFirstReason}
use Rattle.hm_schedule.specs.Limits.{max_events}
use Rattle.hm_schedule.specs.Lines.{IsOverlong}
use Rattle.hm_schedule.specs.LineTexts.{IsLine, ended}
use Rattle.hm_schedule.specs.Orders.{Stage, events_at, lines_text, stage_of}
use Rattle.hm_schedule.specs.Stages.{StandsAt}
use Rattle.hm_schedule.specs.declared.line.Line.{Line}
use Rattle.hm_schedule.specs.declared.line.LineReason.{LineReason}
use Rattle.hm_schedule.specs.declared.line.LineReason.TheVariants as reason
use Rattle.hm_schedule.specs.declared.refusal.Refusal.{Refusal}
use Rattle.hm_schedule.specs.declared.refusal.Refusal.TheVariants as refusal

-- as many events came as a schedule may have
abbrev pub IsFull : Stage → Type 0
IsFull stage = max_events ≤ events_at stage

-- a byte comes behind as many events as there may be, or a line has more bytes before its end than it may have
abbrev pub IsTooLong : Stage → List ℕ → Type 0
IsTooLong stage bytes = (IsFull stage × (bytes ≢ [])) ⊎ IsOverlong bytes

-- an input with no byte lacks the group's line
pub record LacksGroup (stage : Stage) (bytes : List ℕ) (r : LineReason) : Type 0 where
  pub fresh : stage ≡ Stage.Fresh
  pub none : bytes ≡ []
  pub reason_is : r ≡ reason.Header

-- the input ends within a line
pub record EndsInLine (bytes : List ℕ) (r : LineReason) : Type 0 where
  pub some : bytes ≢ []
  pub line : IsLine bytes
  pub reason_is : r ≡ reason.End

-- a line comes that may not come there
pub record HasBadLine (stage : Stage) (bytes : List ℕ) (r : LineReason) : Type 0 where
  pub line : List ℕ
  pub more : List ℕ
  pub parts : bytes ≡ ended line ++ more
  pub is_line : IsLine line
  pub first : IsFirstReason (StandsAt stage) line r

-- why the bytes of an input are refused where the schedule has come so far
abbrev pub IsRefused : Stage → List ℕ → Refusal → Type 0
IsRefused stage bytes refusal.TooLong = IsTooLong stage bytes
IsRefused stage bytes (refusal.Bad r) = (IsTooLong stage bytes → ⊥) × (LacksGroup stage bytes r ⊎ (EndsInLine bytes r ⊎ HasBadLine stage bytes r))

-- bytes are these lines, and then bytes that are refused
pub record BreaksOff (begun : List Line) (why : Refusal) (bytes : List ℕ) : Type 0 where
  pub rest : List ℕ
  pub parts : bytes ≡ lines_text begun ++ rest
  pub refused : IsRefused (stage_of begun) rest why
