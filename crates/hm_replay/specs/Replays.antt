-- What a replay reads and what it writes.
use Rattle.std.specs.Prelude.{◌≡◌, ℕ, ◌+◌, List, [], ◌++◌, length, Option, IfSome, ◌⊎◌}
use Rattle.std.specs.Io.KnownBytes.{Consumes, Appends, IsAtEnd}
use Rattle.hm_base.specs.Lists.{IsPrefix}
use Rattle.hm_rules.specs.World.{World, opens}
use Rattle.hm_rules.specs.Runs.{run, full_events}
use Rattle.hm_rules.specs.RunText.{events_text, order_text, bad_text, too_long_text, run_text, refused_events}
use Rattle.hm_order.specs.declared.mark.Mark.{Mark}
use Rattle.hm_order.specs.Legal.{IsLegal}
use Rattle.hm_order.specs.Order.{order}
use Rattle.hm_schedule.specs.LineTexts.{IsLine}
use Rattle.hm_schedule.specs.Orders.{IsBegun, IsSchedule, lines_text, setup_in, events_in}
use Rattle.hm_schedule.specs.Reasons.{reason_text}
use Rattle.hm_schedule.specs.Refusals.{BreaksOff}
use Rattle.hm_schedule.specs.declared.line.Line.{Line}
use Rattle.hm_schedule.specs.declared.refusal.Refusal.{Refusal}
use Rattle.hm_schedule.specs.declared.refusal.Refusal.TheVariants as refusal

-- ---- what the lines of a schedule, or of its front, lead to

-- the numbers of the events at which a write finds the slots of its switch full
abbrev pub full_in : List Line → List ℕ
full_in lines = full_events (setup_in lines) (events_in lines)

-- the world behind their events
abbrev pub world_in : List Line → World
world_in lines = run (opens (setup_in lines)) (events_in lines) (full_in lines)

-- the text of their events
abbrev pub events_text_of : List Line → List ℕ
events_text_of lines = events_text 1 (opens (setup_in lines)) (events_in lines) (full_in lines)

-- the history of their run
abbrev pub history_in : List Line → List Mark
history_in lines = (world_in lines).history

-- the end of the text, where the schedule ends there
abbrev pub end_text : List Line → List ℕ
end_text lines = order_text (order (history_in lines))

-- the text shows a refused write at just those events at which the slots are full
abbrev pub ShowsFull : List Line → List ℕ → Type 0
ShowsFull lines text = refused_events text ≡ full_in lines

-- the end of the text, where the line of this number is refused
abbrev pub refusal_text : ℕ → Refusal → List ℕ
refusal_text number refusal.TooLong = too_long_text number
refusal_text number (refusal.Bad reason) = bad_text number (reason_text reason)

-- ---- how a replay ends

-- the source's bytes to its end were a schedule, the text of its run was put, which shows a refused write just where the slots
-- are full, and the order at its end is one that a single object store could have given
pub record IsWholeRun (left now held put : Option (List ℕ)) : Type 0 where
  pub schedule : List Line
  pub lawful : IsSchedule schedule
  pub read : Consumes left now (lines_text schedule)
  pub end : IsAtEnd now
  pub written : Appends held put (run_text (setup_in schedule) (events_in schedule) (full_in schedule))
  pub shown : ShowsFull schedule (run_text (setup_in schedule) (events_in schedule) (full_in schedule))
  pub legal : IsLegal (history_in schedule) (order (history_in schedule))

-- the line of this number is the first that is refused; the text of the events before it was put, and then its number and why
pub record IsRefusedRun (left held put : Option (List ℕ)) (number : ℕ) (why : Refusal) : Type 0 where
  pub begun : List Line
  pub lawful : IsBegun begun
  pub number_is : number ≡ length begun + 1
  pub breaks : IfSome left (BreaksOff begun why)
  pub written : Appends held put (events_text_of begun ++ refusal_text number why)
  pub shown : ShowsFull begun (events_text_of begun ++ refusal_text number why)

-- the text of the events whose lines were read whole was put
pub record IsCutRun (left now held put : Option (List ℕ)) : Type 0 where
  pub begun : List Line
  pub lawful : IsBegun begun
  pub part : List ℕ
  pub part_is : IsLine part
  pub read : Consumes left now (lines_text begun ++ part)
  pub written : Appends held put (events_text_of begun)
  pub shown : ShowsFull begun (events_text_of begun)

-- the source's bytes to its end are these lines, a schedule, and the closing text is that of its end
pub record ClosesWhole (begun : List Line) (ahead : List ℕ) (now : Option (List ℕ)) (closing : List ℕ) : Type 0 where
  pub schedule : IsSchedule begun
  pub none : ahead ≡ []
  pub end : IsAtEnd now
  pub closing_is : closing ≡ end_text begun

-- the next line is refused, and the closing text names it
pub record ClosesRefused (begun : List Line) (left : Option (List ℕ)) (closing : List ℕ) : Type 0 where
  pub why : Refusal
  pub breaks : IfSome left (BreaksOff begun why)
  pub closing_is : closing ≡ refusal_text (length begun + 1) why

-- what ends the text after these lines, if anything does yet
abbrev pub IsClosing : List Line → List ℕ → Option (List ℕ) → Option (List ℕ) → List ℕ → Type 0
IsClosing begun ahead left now closing = (closing ≡ []) ⊎ (ClosesWhole begun ahead now closing ⊎ ClosesRefused begun left closing)

-- a front of the text that belongs to the lines read whole was put
pub record IsPartialRun (left now held put : Option (List ℕ)) : Type 0 where
  pub begun : List Line
  pub lawful : IsBegun begun
  pub ahead : List ℕ
  pub read : Consumes left now (lines_text begun ++ ahead)
  pub closing : List ℕ
  pub closes : IsClosing begun ahead left now closing
  pub text : List ℕ
  pub front : IsPrefix text (events_text_of begun ++ closing)
  pub written : Appends held put text
