-- What a step of a replica keeps, whatever its protocol.
use Rattle.hm_base.specs.declared.node.GroupKind.{GroupKind}
use Rattle.hm_base.specs.declared.node.GroupKind.TheVariants as kind
use Rattle.hm_packet.specs.Messages.{Message}
use Rattle.hm_rules.specs.Replica.{Replica}
use Rattle.hm_rules.specs.Deliveries.{replica_step, replica_tick}
use Rattle.hm_step_laws.specs.Keeps.{Keeps}
use Rattle.hm_step_laws.proofs.ChainKeeps.{chain_keeps, chain_tick_keeps}
use Rattle.hm_step_laws.proofs.PrimaryKeeps.{primary_keeps, primary_tick_keeps}
use Rattle.hm_step_laws.proofs.VrKeeps.{vr_keeps, vr_tick_keeps}

pub step_keeps : (k : GroupKind) (r : Replica) (m : Message) → Keeps r (replica_step k r m)
step_keeps kind.Chain r m = chain_keeps r m
step_keeps kind.Primary r m = primary_keeps r m
step_keeps kind.Vr r m = vr_keeps r m

pub tick_keeps : (k : GroupKind) (r : Replica) → Keeps r (replica_tick k r)
tick_keeps kind.Chain r = chain_tick_keeps r
tick_keeps kind.Primary r = primary_tick_keeps r
tick_keeps kind.Vr r = vr_tick_keeps r
