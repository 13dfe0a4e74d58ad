-- What one line more adds to the front of a schedule.
use Rattle.std.specs.Prelude.{◌≡◌, ◌<◌, ◌≤◌, List, [], ◌∷◌, ◌++◌, length}
use Rattle.hm_schedule.specs.Limits.{max_events}
use Rattle.hm_schedule.specs.Setups.{event_of}
use Rattle.hm_schedule.specs.Orders.{Stage, MayCome, IsNext, IsBegun, after, stage_of, events_at, line_bytes, lines_text, set_by, setup_in, events_in}
use Rattle.hm_schedule.specs.declared.event.Event.{Event}
use Rattle.hm_schedule.specs.declared.line.Line.{Line}
use Rattle.hm_schedule.specs.declared.line.Line.TheVariants as line

pub record GrowsByLines : Type 0 where
  pub begun : (lines : List Line) (l : Line) → IsBegun lines → IsNext (stage_of lines) l → IsBegun (lines ++ l ∷ [])
  pub stage : (lines : List Line) (l : Line) → stage_of (lines ++ l ∷ []) ≡ after (stage_of lines) l
  pub text : (lines : List Line) (l : Line) → lines_text (lines ++ l ∷ []) ≡ lines_text lines ++ line_bytes l
  pub setup : (lines : List Line) (l : Line) → setup_in (lines ++ l ∷ []) ≡ set_by (setup_in lines) l
  pub events : (lines : List Line) (e : Event) → events_in (lines ++ line.Event e ∷ []) ≡ events_in lines ++ event_of e ∷ []
  -- the stage counts the events, of which a world takes all
  pub counted : (lines : List Line) → IsBegun lines → events_at (stage_of lines) ≡ length (events_in lines)
  pub few : (lines : List Line) → IsBegun lines → length (events_in lines) ≤ max_events
  pub room : (stage : Stage) (e : Event) → MayCome stage (line.Event e) → events_at stage < max_events
