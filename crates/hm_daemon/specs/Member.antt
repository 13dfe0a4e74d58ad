-- What contracts see of a replica of any protocol.
use Rattle.hm_base.specs.declared.node.GroupKind.{GroupKind}
use Rattle.hm_base.specs.declared.node.GroupKind.TheVariants as kind
use Rattle.hm_rules.specs.Replica.{Replica}
use Rattle.hm_daemon.specs.declared.member.Member.{Member}
use Rattle.hm_daemon.specs.declared.member.Member.TheVariants as member

abbrev pub kind_in : Member → GroupKind
kind_in (member.Chain r) = kind.Chain
kind_in (member.Primary r) = kind.Primary
kind_in (member.Vr r) = kind.Vr

abbrev pub replica_in : Member → Replica
replica_in (member.Chain r) = r
replica_in (member.Primary r) = r
replica_in (member.Vr r) = r
