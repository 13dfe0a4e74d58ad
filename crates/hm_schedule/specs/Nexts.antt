-- What comes next of a schedule.
use Rattle.std.specs.Prelude.{◌≡◌, ◌≢◌, ℕ, List, [], ◌++◌, Option, Some, Result, MatchResult}
use Rattle.std.specs.Io.KnownBytes.{Consumes}
use Rattle.hm_schedule.specs.LineTexts.{IsLine}
use Rattle.hm_schedule.specs.Orders.{Stage, IsNext, IsBegun, line_bytes, lines_text, stage_of, events_in}
use Rattle.hm_schedule.specs.Schedules.{line_text}
use Rattle.hm_schedule.specs.declared.line.Line.{Line}
use Rattle.hm_schedule.specs.declared.line.Line.TheVariants as line
use Rattle.hm_schedule.specs.declared.line.LineReason.{LineReason}
use Rattle.hm_schedule.specs.FirstReasons.{IsFirstReason}
use Rattle.hm_schedule.specs.Lines.{Moves, IsFinished}
use Rattle.hm_schedule.specs.Openings.{Says}
use Rattle.hm_schedule.specs.Refusals.{IsRefused}
use Rattle.hm_schedule.specs.Stages.{StandsAt}
use Rattle.hm_schedule.specs.declared.opening.Opening.{Opening}
use Rattle.hm_schedule.specs.declared.refusal.Refusal.{Refusal}
use Rattle.hm_schedule.specs.declared.refusal.Refusal.TheVariants as refusal
use Rattle.hm_schedule.specs.declared.reading.NextEvent.{NextEvent}
use Rattle.hm_schedule.specs.declared.reading.NextEvent.TheVariants as next_event
use Rattle.hm_schedule.specs.declared.reading.Next.{Next}
use Rattle.hm_schedule.specs.declared.reading.Next.TheVariants as next

-- the input ends here, behind a line
pub record ComesEnd (stage : Stage) (old new : List ℕ) (left now : Option (List ℕ)) : Type 0 where
  pub begun : stage ≢ Stage.Fresh
  pub moves : Moves old new left now []
  pub finished : IsFinished new now

-- bytes were cut off, and those that the source told are refused
pub record ComesBadly (stage : Stage) (old new : List ℕ) (left now : Option (List ℕ)) (why : Refusal) : Type 0 where
  pub cut : List ℕ
  pub moves : Moves old new left now cut
  pub refused : (bytes : List ℕ) → left ≡ Some bytes → IsRefused stage (old ++ bytes) why

-- a line that may come was cut off; or the input ends here; or bytes are refused
abbrev pub Comes : Stage → Next → List ℕ → List ℕ → Option (List ℕ) → Option (List ℕ) → Type 0
Comes stage (next.Line l) old new left now = IsNext stage l × Moves old new left now (line_bytes l)
Comes stage next.End old new left now = ComesEnd stage old new left now
Comes stage (next.Refused why) old new left now = ComesBadly stage old new left now why

-- what came, or a fault within a line
abbrev pub ComesOrFails : {E : Type 0} → Result Next E → Stage → List ℕ → List ℕ → Option (List ℕ) → Option (List ℕ) → Type 0
ComesOrFails result stage old new left now = MatchResult result (λ next. Comes stage next old new left now) (λ _. Moves old new left now [] × IsLine new)

-- the bytes are the line's, which may come, or those of no such line for this reason
abbrev pub IsSpelledBy : Stage → Next → List ℕ → Type 0
IsSpelledBy stage (next.Line l) bytes = IsNext stage l × (bytes ≡ line_text l)
IsSpelledBy stage next.End bytes = ⊥
IsSpelledBy stage (next.Refused why) bytes = (r : LineReason) × (why ≡ refusal.Bad r) × IsFirstReason (StandsAt stage) bytes r

abbrev pub EventComes : Stage → NextEvent → List ℕ → List ℕ → Option (List ℕ) → Option (List ℕ) → Type 0
EventComes stage (next_event.Event e) old new left now = IsNext stage (line.Event e) × Moves old new left now (line_bytes (line.Event e))
EventComes stage next_event.End old new left now = ComesEnd stage old new left now
EventComes stage (next_event.Refused why) old new left now = ComesBadly stage old new left now why

abbrev pub EventComesOrFails : {E : Type 0} → Result NextEvent E → Stage → List ℕ → List ℕ → Option (List ℕ) → Option (List ℕ) → Type 0
EventComesOrFails result stage old new left now = MatchResult result (λ next. EventComes stage next old new left now) (λ _. Moves old new left now [] × IsLine new)

-- opening lines were read, which say this, and behind them this comes
pub record Opens (o : Opening) (next : NextEvent) (new : List ℕ) (left now : Option (List ℕ)) : Type 0 where
  pub lines : List Line
  pub says : Says o lines
  pub ahead : List ℕ
  pub between : Option (List ℕ)
  pub read : Consumes left between (lines_text lines ++ ahead)
  pub comes : EventComes (stage_of lines) next ahead new between now

-- a fault came within a line behind opening lines
pub record OpensCut (part : List ℕ) (left now : Option (List ℕ)) : Type 0 where
  pub lines : List Line
  pub begun : IsBegun lines
  pub no_event : events_in lines ≡ []
  pub read : Consumes left now (lines_text lines ++ part)
  pub part_is : IsLine part

abbrev pub OpensOrFails : {E : Type 0} → Result (Opening × NextEvent) E → List ℕ → Option (List ℕ) → Option (List ℕ) → Type 0
OpensOrFails result new left now = MatchResult result (λ opened. Opens opened.0 opened.1 new left now) (λ _. OpensCut new left now)
