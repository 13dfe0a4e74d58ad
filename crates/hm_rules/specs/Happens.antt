-- The events of the world: clients invoke, packets arrive, replicas tick, time out and stop, members are removed, switches replaced.
-- Any packet that was sent may arrive late, again or never, and none that wasn't sent.
use Rattle.std.specs.Prelude.{ℕ, ◌+◌, Bool, not, ◌==◌, if◌then◌else◌, [], ◌∷◌, ◌++◌, slice_get, Option, Some, None, is_some}
use Rattle.std.specs.List.{list_any}
use Rattle.hm_base.specs.declared.node.Node.TheVariants as node
use Rattle.hm_packet.specs.declared.body.Body.{Body}
use Rattle.hm_packet.specs.declared.body.Body.TheVariants as body
use Rattle.hm_packet.specs.declared.outcome.Bar.{Bar}
use Rattle.hm_packet.specs.declared.outcome.Bar.TheVariants as bar
use Rattle.hm_packet.specs.Messages.{Message}
use Rattle.hm_order.specs.declared.mark.Mark.TheVariants as mark
use Rattle.hm_order.specs.declared.mark.Want.{Want}
use Rattle.hm_order.specs.declared.mark.Want.TheVariants as want
use Rattle.hm_rules.specs.Same.{same_message}
use Rattle.hm_rules.specs.Replica.{Replica}
use Rattle.hm_rules.specs.Viewstamped.{vr_timeout}
use Rattle.hm_rules.specs.Service.{Service, Serviced, is_fixed, is_member, is_last, removes, retires, StartFault, start_fault, starts}
use Rattle.hm_rules.specs.Events.{Event}
use Rattle.hm_rules.specs.World.{Client, World, Happened, starts_switch, barred, taken, posts, switch_at, sent_at, is_stopped, live, client_of, with_client}
use Rattle.hm_rules.specs.Deliveries.{at_replica, replica_tick, deliver}

-- ---- clients

abbrev pub asks : ℕ → Want → Body
asks request (want.Read object) = body.Read (record { request = request; object = object })
asks request (want.Write object value) = body.Write (record { request = request; object = object; value = value })

abbrev pub request_to : Client → Want → ℕ → Message
request_to k w s = record { src = node.Client k.client; dst = node.Switch s; body = asks k.request w }

abbrev pub invoked : World → Client → Want → ℕ → World
invoked w k asked s =
    record w { net = w.net ++ request_to k asked s ∷ []; clients = with_client k w.clients; history = w.history ++ mark.Invoke (record { client = k.client; request = k.request }) asked ∷ [] }

-- a client invokes one operation after another, with rising request numbers
abbrev pub invokes : World → Client → Want → ℕ → Happened
invokes w k asked s =
    if not (is_some (switch_at w s)) then barred w bar.NoSwitch
    else if is_some k.outstanding then barred w bar.Busy
    else taken w (invoked w (record k { request = k.request + 1; outstanding = Some asked }) asked s)

abbrev pub resends : World → Client → Option Want → ℕ → Happened
resends w k None s = barred w bar.Idle
resends w k (Some asked) s = taken w (posts w (request_to k asked s ∷ []))

-- ---- replicas

-- a tick, a timeout or a stop of one replica
abbrev pub at_live : World → ℕ → (Replica → Happened) → Option Replica → Happened
at_live w number does None = barred w bar.Member
at_live w number does (Some r) = if is_stopped w number then barred w bar.Stopped else does r

abbrev pub stops : World → ℕ → Happened
stops w number = taken w (record w { stopped = w.stopped ++ number ∷ [] })

-- ---- the service

abbrev pub serviced : World → Serviced → Happened
serviced w s = taken w (posts (record w { service = s.service }) s.outs)

-- only a stopped member is removed, and never the last one
abbrev pub removal : World → ℕ → Happened
removal w number =
    if is_fixed w.setup.kind then barred w bar.Fixed
    else if not (is_member w.service number) then barred w bar.Member
    else if not (is_stopped w number) then barred w bar.Live
    else if is_last w.service then barred w bar.Last
    else serviced w (removes w.service number)

abbrev pub started : World → Service → Happened
started w s = taken w (record w { service = s; switches = w.switches ++ starts_switch w.setup s ∷ [] })

-- the numbers of 32 bits don't end in a run
abbrev pub start_bar : StartFault → Bar
start_bar StartFault.NotRetired = bar.NotRetired
start_bar (StartFault.NotRefused replica) = bar.NotRefused
start_bar StartFault.NoNumber = bar.NoSwitch

abbrev pub starts_or : World → Option StartFault → Happened
starts_or w (Some fault) = barred w (start_bar fault)
starts_or w None = started w (starts w.service)

-- a new switch is started once every live replica has refused the one before it
abbrev pub start : World → Happened
start w = starts_or w (start_fault w.service (live w))

-- ---- arrivals

abbrev pub raw : Bool → World → Option Message → Happened
raw refuse w None = barred w bar.Malformed
raw refuse w (Some m) = if list_any (same_message m) w.net then deliver refuse w (Some m) else barred w bar.Forged

-- the cursor passes over a packet, if there is one left
abbrev pub passed : World → World
passed w = record w { cursor = w.cursor + 1 }

abbrev pub next : Bool → World → Option Message → Happened
next refuse w None = barred w bar.NoPacket
next refuse w (Some m) = deliver refuse (passed w) (Some m)

abbrev pub drops : World → Option Message → Happened
drops w None = barred w bar.NoPacket
drops w (Some m) = taken w (passed w)

-- ---- events

-- One event, with its bars in order; a barred one changes nothing. `refuse` is the switch's free choice where the event delivers a
-- client's write to one, and is without effect elsewhere.
abbrev pub happens : World → Event → Bool → Happened
happens w (Event.Write client object value switch) refuse = invokes w (client_of w client) (want.Write object value) switch
happens w (Event.Read client object switch) refuse = invokes w (client_of w client) (want.Read object) switch
happens w (Event.Resend client switch) refuse = if is_some (switch_at w switch) then resends w (client_of w client) (client_of w client).outstanding switch else barred w bar.NoSwitch
happens w (Event.Deliver packet) refuse = deliver refuse w (sent_at w packet)
happens w Event.Next refuse = next refuse w (slice_get w.net w.cursor)
happens w Event.Drop refuse = drops w (slice_get w.net w.cursor)
happens w (Event.Tick replica) refuse = at_live w replica (λ r. at_replica w replica (replica_tick w.setup.kind r)) (slice_get w.replicas replica)
happens w (Event.Stop replica) refuse = at_live w replica (λ r. stops w replica) (slice_get w.replicas replica)
happens w (Event.Remove replica) refuse = removal w replica
happens w (Event.Timeout replica) refuse = if is_fixed w.setup.kind then at_live w replica (λ r. at_replica w replica (vr_timeout r)) (slice_get w.replicas replica) else barred w bar.NotVr
happens w Event.Retire refuse = serviced w (retires w.service)
happens w Event.Start refuse = start w
happens w (Event.Raw spelled) refuse = raw refuse w spelled
