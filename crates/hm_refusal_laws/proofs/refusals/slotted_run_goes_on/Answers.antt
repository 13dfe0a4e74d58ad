use Rattle.hm_refusal_laws.proofs.FullRuns.{run_push, text_push}
use Rattle.hm_refusal_laws.proofs.refusals.slotted_run_goes_on.Goals as goal

pub returns-clause-world : goal.returns-clause-world
returns-clause-world c s es e = run_push s es e

pub returns-clause-text : goal.returns-clause-text
returns-clause-text c k s es e = text_push k s es e
