-- What the arrival of a packet does: it is a step of the node that it is addressed to. A stopped replica and a switch that wasn't
-- started take no notice.
use Rattle.std.specs.Prelude.{ℕ, ◌-◌, Bool, true, false, not, ◌==◌, if◌then◌else◌, List, [], ◌∷◌, ◌++◌, slice_get, slice_set, Option, Some, None}
use Rattle.hm_base.specs.declared.entry.Entry.{Entry}
use Rattle.hm_base.specs.declared.node.Node.{Node}
use Rattle.hm_base.specs.declared.node.Node.TheVariants as node
use Rattle.hm_base.specs.declared.node.GroupKind.{GroupKind}
use Rattle.hm_base.specs.declared.node.GroupKind.TheVariants as kind
use Rattle.hm_base.specs.declared.operation.Answer.{Answer}
use Rattle.hm_base.specs.declared.operation.Answer.TheVariants as answer
use Rattle.hm_base.specs.declared.why.Why.TheVariants as why
use Rattle.hm_packet.specs.declared.acted.Did.{Did}
use Rattle.hm_packet.specs.declared.acted.Did.TheVariants as did
use Rattle.hm_packet.specs.declared.body.Body.{Body}
use Rattle.hm_packet.specs.declared.body.Body.TheVariants as body
use Rattle.hm_packet.specs.declared.body.Reply.{Reply}
use Rattle.hm_packet.specs.declared.outcome.Outcome.TheVariants as outcome
use Rattle.hm_packet.specs.declared.outcome.Bar.TheVariants as bar
use Rattle.hm_packet.specs.declared.turn.Turn.{Turn}
use Rattle.hm_packet.specs.declared.turn.Turn.TheVariants as turn
use Rattle.hm_packet.specs.Messages.{Message}
use Rattle.hm_order.specs.declared.mark.Mark.TheVariants as mark
use Rattle.hm_order.specs.declared.mark.Want.{Want}
use Rattle.hm_order.specs.declared.mark.Want.TheVariants as want
use Rattle.hm_rules.specs.Switch.{AbstractSwitch, Turned, switch_step}
use Rattle.hm_rules.specs.Replica.{Replica}
use Rattle.hm_rules.specs.ReplicaSteps.{Stepped}
use Rattle.hm_rules.specs.Chain.{chain_step, chain_tick}
use Rattle.hm_rules.specs.PrimaryBackup.{primary_step, primary_tick}
use Rattle.hm_rules.specs.Viewstamped.{vr_step, vr_tick}
use Rattle.hm_rules.specs.Service.{Noted, service_step}
use Rattle.hm_rules.specs.Declared.{declared_after, commits_since}
use Rattle.hm_rules.specs.World.{Client, World, Happened, barred, ignored_at, taken, posts, switch_at, is_stopped, client_of, with_client}

-- ---- clients

-- a write is answered by Wrote, a read by anything else
abbrev pub fits : Want → Answer → Bool
fits (want.Read object) answer.Wrote = false
fits (want.Read object) other = true
fits (want.Write object value) answer.Wrote = true
fits (want.Write object value) other = false

abbrev pub answered : World → Client → Reply → World
answered w k reply =
    record w { clients = with_client (record k { outstanding = None }) w.clients; history = w.history ++ mark.Reply (record { client = k.client; request = reply.request }) reply.version reply.answer ∷ [] }

abbrev pub on_reply : World → Client → Reply → Option Want → Happened
on_reply w k reply None = ignored_at w why.Repeat
on_reply w k reply (Some asked) =
    if not (k.request == reply.request) then ignored_at w why.Repeat
    else if not (fits asked reply.answer) then ignored_at w why.Foreign
    else taken w (answered w k reply)

abbrev pub to_client : World → Client → Body → Happened
to_client w k (body.Reply reply) = on_reply w k reply k.outstanding
to_client w k other = ignored_at w why.Foreign

-- ---- switches

abbrev pub with_switch : World → ℕ → AbstractSwitch → World
with_switch w number s = record w { switches = slice_set w.switches (number - 1) s }

abbrev pub turned : World → World → Turn → Happened
turned old w (turn.Sent p) = taken old (posts w (p ∷ []))
turned old w turn.Noted = taken old w
turned old w (turn.Ignored reason) = ignored_at w reason
turned old w turn.Full = record { world = w; outcome = outcome.Full }
turned old w turn.Spent = record { world = w; outcome = outcome.Spent }

abbrev pub at_switch : World → ℕ → Turned → Happened
at_switch w number t = turned w (with_switch w number t.switch) t.turn

abbrev pub to_switch : Bool → World → Message → ℕ → Option AbstractSwitch → Happened
to_switch refuse w m number None = ignored_at w why.Gone
to_switch refuse w m number (Some s) = at_switch w number (switch_step refuse s m)

-- ---- replicas

abbrev pub replica_step : GroupKind → Replica → Message → Stepped
replica_step kind.Chain r m = chain_step r m
replica_step kind.Primary r m = primary_step r m
replica_step kind.Vr r m = vr_step r m

abbrev pub replica_tick : GroupKind → Replica → Stepped
replica_tick kind.Chain r = chain_tick r
replica_tick kind.Primary r = primary_tick r
replica_tick kind.Vr r = vr_tick r

-- the replica is changed, what it declares joins the declared list with a mark for each write, and what it sends the net
abbrev pub stepped : World → ℕ → Stepped → World
stepped w number s =
    let declared : List Entry = declared_after w.declared s.replica.log s.declared.to in
    record w { replicas = slice_set w.replicas number s.replica; net = w.net ++ s.outs; declared = declared; history = w.history ++ commits_since w.declared declared }

abbrev pub acted : World → ℕ → Stepped → Did → Happened
acted w number s did.Done = taken w (stepped w number s)
acted w number s (did.Ignored reason) = ignored_at w reason
acted w number s did.LogFull = record { world = w; outcome = outcome.LogFull }

abbrev pub at_replica : World → ℕ → Stepped → Happened
at_replica w number s = acted w number s s.did

abbrev pub to_replica : World → Message → ℕ → Option Replica → Happened
to_replica w m number None = ignored_at w why.Gone
to_replica w m number (Some r) = if is_stopped w number then ignored_at w why.Gone else at_replica w number (replica_step w.setup.kind r m)

-- ---- the service

abbrev pub noted : World → Noted → Did → Happened
noted w n did.Done = taken w (record w { service = n.service })
noted w n (did.Ignored reason) = ignored_at w reason
noted w n did.LogFull = ignored_at w why.Status

abbrev pub to_service : World → Noted → Happened
to_service w n = noted w n n.did

-- ---- deliveries

abbrev pub to_node : Bool → World → Message → Node → Happened
to_node refuse w m (node.Client c) = to_client w (client_of w c) m.body
to_node refuse w m (node.Switch s) = to_switch refuse w m s (switch_at w s)
to_node refuse w m (node.Replica r) = to_replica w m r (slice_get w.replicas r)
to_node refuse w m node.Config = to_service w (service_step w.service m)

abbrev pub deliver : Bool → World → Option Message → Happened
deliver refuse w None = barred w bar.NoPacket
deliver refuse w (Some m) = to_node refuse w m m.dst
