-- Which line may come next of a schedule: the group's comes first, then at most one line each of the table, the switches' life and the
-- logs' capacity, in this order, and then events. What a schedule's lines say.
use Rattle.std.specs.Prelude.{◌≢◌, ℕ, ◌+◌, ◌<◌, List, [], ◌∷◌, ◌++◌, fold, filter_map, flat_map, Option, Some, None}
use Rattle.hm_base.specs.declared.node.GroupKind.{GroupKind}
use Rattle.hm_base.specs.declared.node.GroupKind.TheVariants.{Chain}
use Rattle.hm_rules.specs.Events as rule
use Rattle.hm_schedule.specs.Limits.{max_events, max_life}
use Rattle.hm_schedule.specs.Setups.{event_of}
use Rattle.hm_schedule.specs.LineTexts.{ended}
use Rattle.hm_store.specs.Log.{max_log_len}
use Rattle.hm_schedule.specs.Schedules.{IsLawful, line_text}
use Rattle.hm_schedule.specs.declared.line.Line.{Line}
use Rattle.hm_schedule.specs.declared.line.Line.TheVariants as line

-- how far a schedule has come: no line, the place of its last setup line, or how many events
pub data Stage : Type 0 where
  Fresh : Stage
  Setting : (place : ℕ) → Stage
  Running : (events : ℕ) → Stage

-- the places of setup lines; an event stands behind them all
abbrev pub place_of : Line → ℕ
place_of (line.Group kind size) = 0
place_of (line.Table stages bits) = 1
place_of (line.Life life) = 2
place_of (line.Log cap) = 3
place_of (line.Event e) = 4

abbrev pub events_at : Stage → ℕ
events_at Stage.Fresh = 0
events_at (Stage.Setting place) = 0
events_at (Stage.Running events) = events

abbrev pub MayCome : Stage → Line → Type 0
MayCome Stage.Fresh (line.Group kind size) = Unit {0}
MayCome Stage.Fresh other = ⊥
MayCome (Stage.Setting place) l = place < place_of l
MayCome (Stage.Running events) (line.Event e) = events < max_events
MayCome (Stage.Running events) other = ⊥

abbrev pub after : Stage → Line → Stage
after stage (line.Event e) = Stage.Running (events_at stage + 1)
after stage l = Stage.Setting (place_of l)

abbrev pub IsNext : Stage → Line → Type 0
IsNext stage l = IsLawful l × MayCome stage l

-- each of the lines may come behind those before it
abbrev pub ComeFrom : Stage → List Line → Type 0
ComeFrom stage [] = Unit {0}
ComeFrom stage (l ∷ ls) = IsNext stage l × ComeFrom (after stage l) ls

abbrev pub stage_of : List Line → Stage
stage_of lines = fold after Stage.Fresh lines

-- the lines are a schedule's front
abbrev pub IsBegun : List Line → Type 0
IsBegun lines = ComeFrom Stage.Fresh lines

pub record IsSchedule (lines : List Line) : Type 0 where
  pub begun : IsBegun lines
  pub group : lines ≢ []

-- ---- bytes

abbrev pub line_bytes : Line → List ℕ
line_bytes l = ended (line_text l)

abbrev pub lines_text : List Line → List ℕ
lines_text lines = flat_map line_bytes lines

-- the bytes begin with no line that may come next
abbrev pub HasNoNext : Stage → List ℕ → Type 0
HasNoNext stage bytes = (l : Line) → (more : List ℕ) → IsNext stage l → bytes ≢ line_bytes l ++ more

-- The bytes are outside the grammar where the schedule has come so far: they begin with no line that may come next, and they aren't
-- the end of a schedule.
abbrev pub IsOutside : Stage → List ℕ → Type 0
IsOutside Stage.Fresh bytes = HasNoNext Stage.Fresh bytes
IsOutside stage bytes = (bytes ≢ []) × HasNoNext stage bytes

-- ---- what the lines say

-- the setup of a group of which no line says more
abbrev pub default_setup : GroupKind → ℕ → rule.Setup
default_setup kind size = record { kind = kind; size = size; stages = 3; bits = 10; life = max_life; cap = max_log_len }

abbrev pub set_by : rule.Setup → Line → rule.Setup
set_by s (line.Group kind size) = default_setup kind size
set_by s (line.Table stages bits) = record s { stages = stages; bits = bits }
set_by s (line.Life life) = record s { life = life }
set_by s (line.Log cap) = record s { cap = cap }
set_by s (line.Event e) = s

abbrev pub setup_in : List Line → rule.Setup
setup_in lines = fold set_by (default_setup Chain 1) lines

abbrev pub event_in : Line → Option rule.Event
event_in (line.Event e) = Some (event_of e)
event_in other = None

abbrev pub events_in : List Line → List rule.Event
events_in lines = filter_map event_in lines
