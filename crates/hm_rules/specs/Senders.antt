-- Who may send what: clients speak to switches, switches to replicas and clients, replicas to all, and the configuration
-- service to replicas and switches. The kinds of packets are this project's own.
use Rattle.std.specs.Prelude.{ℕ, Bool, true, false, ◌==◌}
use Rattle.hm_base.specs.declared.node.Node.{Node}
use Rattle.hm_base.specs.declared.node.Node.TheVariants as node
use Rattle.hm_packet.specs.declared.body.Body.{Body}
use Rattle.hm_packet.specs.declared.body.Body.TheVariants as body

abbrev pub same_node : Node → Node → Bool
same_node (node.Client a) (node.Client b) = a == b
same_node (node.Switch a) (node.Switch b) = a == b
same_node (node.Replica a) (node.Replica b) = a == b
same_node node.Config node.Config = true
same_node a b = false

-- a client's, switch's or replica's number
abbrev pub number : Node → ℕ
number (node.Client c) = c
number (node.Switch s) = s
number (node.Replica r) = r
number node.Config = 0

abbrev pub client_sends : Body → Bool
client_sends (body.Read b) = true
client_sends (body.Write b) = true
client_sends other = false

abbrev pub switch_sends : Body → Bool
switch_sends (body.Put b) = true
switch_sends (body.FastRead b) = true
switch_sends (body.NormalRead b) = true
switch_sends (body.Reply b) = true
switch_sends other = false

abbrev pub replica_sends : Body → Bool
replica_sends (body.Read b) = false
replica_sends (body.Write b) = false
replica_sends (body.Put b) = false
replica_sends (body.FastRead b) = false
replica_sends (body.Config b) = false
replica_sends (body.Refuse b) = false
replica_sends other = true

abbrev pub service_sends : Body → Bool
service_sends (body.Config b) = true
service_sends (body.Route b) = true
service_sends (body.Refuse b) = true
service_sends other = false

abbrev pub may_send : Node → Body → Bool
may_send (node.Client c) b = client_sends b
may_send (node.Switch s) b = switch_sends b
may_send (node.Replica r) b = replica_sends b
may_send node.Config b = service_sends b
