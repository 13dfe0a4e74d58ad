-- What contracts see of a group's fields, and what holds of them.
use Rattle.std.specs.Prelude.{◌≡◌, ◌≤◌, List, All, length}
use Rattle.hm_base.specs.declared.node.GroupKind.{GroupKind}
use Rattle.hm_base.specs.declared.node.GroupKind.TheVariants as kind
use Rattle.hm_rules.specs.Replica.{Replica}
use Rattle.hm_store.specs.Log.{max_log_len}
use Rattle.hm_world.specs.Grouped.{Grouped}
use Rattle.hm_world.specs.declared.group.Members.{Members}
use Rattle.hm_world.specs.declared.group.Members.TheVariants as members
use Rattle.hm_world.specs.declared.group.Group.TheInside.{Inside}

abbrev pub kind_in : Members → GroupKind
kind_in (members.Chain list) = kind.Chain
kind_in (members.Primary list) = kind.Primary
kind_in (members.Vr list) = kind.Vr

abbrev pub replicas_in : Members → List Replica
replicas_in (members.Chain list) = list.items
replicas_in (members.Primary list) = list.items
replicas_in (members.Vr list) = list.items

abbrev pub grouped_of : Inside → Grouped
grouped_of g = record { kind = kind_in g.members; cap = g.cap; replicas = replicas_in g.members }

pub record IsKept (g : Inside) : Type 0 where
  pub bounded : g.cap ≤ max_log_len
  pub few : length (replicas_in g.members) ≤ 7
  pub caps : All (λ (r : Replica). r.cap ≡ g.cap) (replicas_in g.members)
