use Rattle.hm_step_laws.proofs.AnyKeeps.{step_keeps, tick_keeps}
use Rattle.hm_step_laws.proofs.VrKeeps.{vr_timeout_keeps}
use Rattle.hm_step_laws.proofs.steps.every_step_keeps.Goals as goal

pub returns-clause-step : goal.returns-clause-step
returns-clause-step c = λ k r m. step_keeps k r m

pub returns-clause-tick : goal.returns-clause-tick
returns-clause-tick c = λ k r. tick_keeps k r

pub returns-clause-timeout : goal.returns-clause-timeout
returns-clause-timeout c = λ r. vr_timeout_keeps r
