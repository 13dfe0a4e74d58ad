-- What the opening lines of a schedule say.
use Rattle.std.specs.Prelude.{◌≡◌, ℕ, ◌+◌, ◌≤◌, List, [], length}
use Rattle.hm_schedule.specs.Setups.{setup_of}
use Rattle.hm_schedule.specs.Orders.{Stage, IsBegun, stage_of, setup_in, events_in}
use Rattle.hm_schedule.specs.declared.line.Line.{Line}
use Rattle.hm_schedule.specs.Stages.{stage_at}
use Rattle.hm_schedule.specs.declared.opening.Opening.{Opening}

-- how many opening lines a schedule has at most
abbrev pub max_opening : ℕ
max_opening = 4

-- how many opening lines there are at most so far
abbrev pub opening_bound : Stage → ℕ
opening_bound Stage.Fresh = 0
opening_bound (Stage.Setting place) = place + 1
opening_bound (Stage.Running events) = max_opening

-- these lines, with no event among them, are a schedule's front and say this
pub record Says (o : Opening) (lines : List Line) : Type 0 where
  pub begun : IsBegun lines
  pub no_event : events_in lines ≡ []
  pub setup_is : setup_of o.setup ≡ setup_in lines
  pub stage_is : stage_at o.stage ≡ stage_of lines
  pub count : o.lines ≡ length lines
  pub few : length lines ≤ opening_bound (stage_of lines)
  pub bound : opening_bound (stage_of lines) ≤ max_opening
