-- What holds of the runs of schedules.
use Rattle.std.specs.Prelude.{◌≡◌, ℕ, ◌+◌, List, [], ◌∷◌, ◌++◌, length}
use Rattle.hm_order.specs.Legal.{IsLegal}
use Rattle.hm_order.specs.Order.{order}
use Rattle.hm_rules.specs.Events.{Event}
use Rattle.hm_rules.specs.World.{opens}
use Rattle.hm_rules.specs.Runs.{Slotted, slotted}
use Rattle.hm_rules.specs.RunText.{event_text, run_text}
use Rattle.hm_refusal_laws.specs.Slotting.{slot_happens, slot_step, slot_run, slot_text}
use Rattle.hm_schedule.specs.Orders.{IsBegun, setup_in, events_in}
use Rattle.hm_schedule.specs.declared.line.Line.{Line}
use Rattle.hm_schedule.specs.declared.refusal.Refusal.{Refusal}
use Rattle.hm_replay.specs.Replays.{full_in, world_in, events_text_of, history_in, refusal_text, ShowsFull}

-- the world behind the events of these lines, with its slots
abbrev pub slotted_in : List Line → Slotted
slotted_in lines = slot_run (slotted (opens (setup_in lines))) (events_in lines)

pub record RunsLawfully : Type 0 where
  -- writes are refused just where the slots are full, event after event
  pub world : (lines : List Line) → world_in lines ≡ (slotted_in lines).world
  pub text : (lines : List Line) → events_text_of lines ≡ slot_text 1 (slotted (opens (setup_in lines))) (events_in lines)
  pub one_more : (s : Slotted) (es : List Event) (e : Event) → slot_run s (es ++ e ∷ []) ≡ slot_step (slot_run s es) e
  pub text_more : (s : Slotted) (es : List Event) (e : Event) → slot_text 1 s (es ++ e ∷ []) ≡ slot_text 1 s es ++ event_text (length es + 1) (slot_run s es).world (slot_happens (slot_run s es) e)
  -- the text shows that, whatever ends it
  pub shown_whole : (lines : List Line) → IsBegun lines → ShowsFull lines (run_text (setup_in lines) (events_in lines) (full_in lines))
  pub shown_cut : (lines : List Line) → IsBegun lines → ShowsFull lines (events_text_of lines)
  pub shown_refused : (lines : List Line) (number : ℕ) (why : Refusal) → IsBegun lines → ShowsFull lines (events_text_of lines ++ refusal_text number why)
  -- the order at its end is one that a single object store could have given
  pub legal : (lines : List Line) → IsBegun lines → IsLegal (history_in lines) (order (history_in lines))
