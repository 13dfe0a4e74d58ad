-- What contracts see of a generator: the lines that it hasn't given yet. What kinds of lines a made schedule has.
use Rattle.std.specs.Prelude.{◌≡◌, ℕ, ◌+◌, ◌-◌, ◌==◌, ◌≤◌, if◌then◌else◌, List, ◌∷◌, map}
use Rattle.hm_base.specs.declared.node.GroupKind.{GroupKind}
use Rattle.hm_schedule.specs.declared.event.Event.{Event}
use Rattle.hm_schedule.specs.declared.line.Line.TheVariants as line
use Rattle.hm_schedule.specs.Generated.{events_from, generated}
use Rattle.hm_schedule.specs.Limits.{max_events}
use Rattle.hm_schedule.specs.Schedules.{IsLawfulGroup}
use Rattle.hm_schedule.specs.declared.generator.Generator.TheInside.{Inside}
use Rattle.hm_schedule.specs.declared.line.Line.{Line}

abbrev pub lines_left : Inside → List Line
lines_left g = if g.given == 0 then generated g.state g.kind g.size else events_from g.kind g.size g.given g.state (max_events + 1 - g.given)

pub record IsSound (g : Inside) : Type 0 where
  pub group : IsLawfulGroup g.kind g.size
  pub given : g.given ≤ max_events + 1

-- the lines are the group's, and then events alone
pub record IsGroupThenEvents (kind : GroupKind) (size : ℕ) (lines : List Line) : Type 0 where
  pub events : List Event
  pub parts : lines ≡ line.Group kind size ∷ map line.Event events
