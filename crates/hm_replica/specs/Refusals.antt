-- Why a replica takes no notice of a packet before it looks at what the packet says.
use Rattle.std.specs.Prelude.{ℕ, Bool, not, ◌||◌, if◌then◌else◌, Option, Some, None}
use Rattle.hm_base.specs.declared.node.Node.{Node}
use Rattle.hm_base.specs.declared.node.Node.TheVariants as node
use Rattle.hm_base.specs.declared.why.Why.{Why}
use Rattle.hm_base.specs.declared.why.Why.TheVariants as why
use Rattle.hm_packet.specs.declared.body.Body.{Body}
use Rattle.hm_packet.specs.Messages.{Message}
use Rattle.hm_rules.specs.Senders.{same_node, may_send}
use Rattle.hm_rules.specs.ReplicaSteps.{is_of_its_switch}

-- a body that this replica may not get from there
abbrev pub is_foreign_from : ℕ → Node → Body → Bool
is_foreign_from me src b = not (may_send src b) || (not (is_of_its_switch src b) || same_node src (node.Replica me))

-- whether the replica has a row for the packet's kind is told
abbrev pub refusal : ℕ → Bool → Message → Option Why
refusal me takes m =
    if not (same_node m.dst (node.Replica me)) then Some why.NotForMe
    else if not takes then Some why.Kind
    else if is_foreign_from me m.src m.body then Some why.Foreign
    else None
