-- The stages of a schedule for those of the code, and which keywords a line may have there.
use Rattle.std.specs.Prelude.{◌≡◌, ◌<◌, ℕ, Option, Some, None}
use Rattle.hm_schedule.specs.FirstReasons.{Anywhere}
use Rattle.hm_schedule.specs.Orders as orders
use Rattle.hm_schedule.specs.declared.keyword.Keyword.{Keyword}
use Rattle.hm_schedule.specs.declared.keyword.Keyword.TheVariants as keyword
use Rattle.hm_schedule.specs.declared.stage.Stage.{Stage}
use Rattle.hm_schedule.specs.declared.stage.Stage.TheVariants as stage

abbrev pub stage_at : Stage → orders.Stage
stage_at stage.Fresh = orders.Stage.Fresh
stage_at (stage.Setting place) = orders.Stage.Setting place
stage_at (stage.Running events) = orders.Stage.Running events

-- the places of setup lines by their keywords; an event's stands behind them all
abbrev pub keyword_place : Keyword → ℕ
keyword_place keyword.Group = 0
keyword_place keyword.Table = 1
keyword_place keyword.Life = 2
keyword_place keyword.Log = 3
keyword_place other = 4

-- the group's line comes first, setup lines in the order of their places, and behind an event only events
abbrev pub StandsAt : orders.Stage → Keyword → Type 0
StandsAt orders.Stage.Fresh k = keyword_place k ≡ 0
StandsAt (orders.Stage.Setting place) k = place < keyword_place k
StandsAt (orders.Stage.Running events) k = keyword_place k ≡ 4

-- at a stage, or anywhere
abbrev pub Standing : Option Stage → Keyword → Type 0
Standing None k = Anywhere k
Standing (Some s) k = StandsAt (stage_at s) k
