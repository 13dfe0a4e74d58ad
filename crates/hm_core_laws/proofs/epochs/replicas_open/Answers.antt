use Rattle.hm_core_laws.proofs.EpochSteps.{replica_is}
use Rattle.hm_core_laws.proofs.epochs.replicas_open.Goals as goal

pub returns : goal.returns
returns c = λ setup n r at. replica_is setup n r at
