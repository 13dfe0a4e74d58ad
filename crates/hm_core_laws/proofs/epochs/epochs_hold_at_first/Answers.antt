use Rattle.hm_core_laws.proofs.EpochSteps.{epochs_opens}
use Rattle.hm_core_laws.proofs.epochs.epochs_hold_at_first.Goals as goal

pub returns : goal.returns
returns c = λ setup. epochs_opens setup
