-- A packet as contracts and rules see it.
use Rattle.std.specs.Prelude.{◌≤◌}
use Rattle.hm_base.specs.declared.node.Node.{Node}
use Rattle.hm_base.specs.declared.node.Node.TheVariants as node
use Rattle.hm_packet.specs.declared.body.Body.{Body}

pub record Message : Type 0 where
  pub src : Node
  pub dst : Node
  pub body : Body

-- replicas are numbered from 0 to 6
abbrev pub IsLawfulNode : Node → Type 0
IsLawfulNode (node.Client c) = Unit {0}
IsLawfulNode (node.Switch s) = Unit {0}
IsLawfulNode (node.Replica r) = r ≤ 6
IsLawfulNode node.Config = Unit {0}

pub record IsLawful (m : Message) : Type 0 where
  pub src : IsLawfulNode m.src
  pub dst : IsLawfulNode m.dst
