-- What holds of a world, whatever its protocol.
use Rattle.std.specs.Prelude.{◌≡◌, List}
use Rattle.hm_base.specs.declared.node.GroupKind.{GroupKind}
use Rattle.hm_base.specs.declared.node.GroupKind.TheVariants as kind
use Rattle.hm_order.specs.declared.mark.Mark.{Mark}
use Rattle.hm_order.specs.Legal.{IsWellFormed, AllDue, IsLegal}
use Rattle.hm_order.specs.Order.{order}
use Rattle.hm_rules.specs.Events.{Setup}
use Rattle.hm_rules.specs.World.{World}
use Rattle.hm_core_laws.specs.Core.{Core}
use Rattle.hm_replacement_laws.specs.Replacement.{ReplacementHolds}
use Rattle.hm_chain_laws.specs.Chained.{ChainHolds}
use Rattle.hm_primary_laws.specs.Led.{PrimaryHolds}
use Rattle.hm_vr_laws.specs.Voted.{HasQuorums, VrHolds}

-- what holds of a group of this kind
abbrev pub KindHolds : GroupKind → World → Type 0
KindHolds kind.Chain w = ChainHolds w
KindHolds kind.Primary w = PrimaryHolds w
KindHolds kind.Vr w = VrHolds w

-- what every event keeps
pub record IsSound (w : World) : Type 0 where
  pub core : Core w
  pub replacement : ReplacementHolds w
  pub group : KindHolds w.setup.kind w

-- a group of Viewstamped Replication has an odd size
abbrev pub CanForm : Setup → Type 0
CanForm setup = setup.kind ≡ kind.Vr → HasQuorums setup.size

-- the history is well formed, each of its replies is due, and its order explains it
pub record IsLinearizable (history : List Mark) : Type 0 where
  pub formed : IsWellFormed history
  pub due : AllDue history
  pub legal : IsLegal history (order history)
