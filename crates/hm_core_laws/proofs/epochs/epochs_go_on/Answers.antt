use Rattle.hm_core_laws.proofs.EpochSteps.{epochs_quiet, epochs_stepped, epochs_removed}
use Rattle.hm_core_laws.proofs.epochs.epochs_go_on.Goals as goal

pub returns-clause-quiet : goal.returns-clause-quiet
returns-clause-quiet c = λ w new epochs groups q. epochs_quiet w epochs groups new q

pub returns-clause-step : goal.returns-clause-step
returns-clause-step c = λ w epochs n r s cursor groups there. epochs_stepped w epochs groups n s r there cursor

pub returns-clause-removal : goal.returns-clause-removal
returns-clause-removal c = λ w epochs n groups stopped. epochs_removed w epochs groups n stopped
