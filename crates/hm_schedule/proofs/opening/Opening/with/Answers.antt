use Rattle.std.proofs.Common.{ℕ, refl, ap}
use Rattle.hm_schedule.proofs.LinePushes.{says_more}
use Rattle.hm_schedule.specs.declared.stage.Stage.TheVariants as stage
use Rattle.hm_schedule.specs.Stages.{stage_at}
use Rattle.hm_schedule.proofs.opening.Opening.with.Goals as goal

pub returns : goal.returns
returns c lines says next none = says_more _ _ lines c.args.line.now says next none c.set_by.ensures (ap (λ (n : ℕ). stage_at (stage.Setting n)) c.place_of.ensures) refl
