-- The world: all nodes, the net between them, the clients, and what an observer writes down. Each event is one step of it. The net
-- keeps every packet, so that each may arrive late, again or never; nothing but what was sent arrives.
use Rattle.std.specs.Prelude.{ℕ, ◌+◌, ◌-◌, Bool, not, ◌==◌, if◌then◌else◌, List, [], ◌∷◌, ◌++◌, length, map, filter, find, slice_get, Option, None, unwrap_or}
use Rattle.hm_base.specs.declared.entry.Entry.{Entry}
use Rattle.hm_base.specs.declared.why.Why.{Why}
use Rattle.hm_packet.specs.declared.outcome.Outcome.{Outcome}
use Rattle.hm_packet.specs.declared.outcome.Outcome.TheVariants as outcome
use Rattle.hm_packet.specs.declared.outcome.Bar.{Bar}
use Rattle.hm_packet.specs.Messages.{Message}
use Rattle.hm_order.specs.declared.mark.Mark.{Mark}
use Rattle.hm_order.specs.declared.mark.Want.{Want}
use Rattle.hm_rules.specs.Numbers.{stands_in}
use Rattle.hm_rules.specs.Switch.{AbstractSwitch, opening}
use Rattle.hm_rules.specs.Replica.{Replica, opened}
use Rattle.hm_rules.specs.Service.{Service, served, service_route, replicas_below}
use Rattle.hm_rules.specs.Events.{Setup}

pub record Client : Type 0 where
  pub client : ℕ
  -- the number of its last request, 0 for none
  pub request : ℕ
  -- what that asks for, while it isn't answered
  pub outstanding : Option Want

pub record World : Type 0 where
  pub setup : Setup
  -- every packet ever sent: the first has the number 1
  pub net : List Message
  -- how many packets `next` and `drop` have passed over
  pub cursor : ℕ
  -- the switches that were started: the first has the number 1
  pub switches : List AbstractSwitch
  -- by replica number
  pub replicas : List Replica
  pub stopped : List ℕ
  pub service : Service
  -- in the order in which they were first seen
  pub clients : List Client
  -- the declared list
  pub declared : List Entry
  pub history : List Mark

-- the world after an event, and how the event ended
pub record Happened : Type 0 where
  pub world : World
  pub outcome : Outcome

abbrev pub starts_switch : Setup → Service → AbstractSwitch
starts_switch setup s = opening s.newest setup.stages setup.life (service_route s)

-- the replicas that the group begins with
abbrev pub opened_replicas : Setup → List Replica
opened_replicas setup = map (λ me. opened me (replicas_below setup.size) setup.cap) (replicas_below setup.size)

-- the world before its first event: switch 1 is started, and nothing was sent
abbrev pub opens : Setup → World
opens setup =
    let service : Service = served setup.kind setup.size in
    record { setup = setup; net = []; cursor = 0; switches = starts_switch setup service ∷ []; replicas = opened_replicas setup; stopped = []; service = service; clients = []; declared = []; history = [] }

-- ---- how an event ends

abbrev pub barred : World → Bar → Happened
barred w b = record { world = w; outcome = outcome.NotAllowed b }

abbrev pub ignored_at : World → Why → Happened
ignored_at w reason = record { world = w; outcome = outcome.Ignored reason }

-- the event was taken; packets sent are numbered on from those before
abbrev pub taken : World → World → Happened
taken old new = record { world = new; outcome = outcome.Ok (length old.net + 1) (length new.net - length old.net) }

abbrev pub posts : World → List Message → World
posts w outs = record w { net = w.net ++ outs }

-- ---- what a world is asked

-- the switch of this number, if it was started
abbrev pub switch_at : World → ℕ → Option AbstractSwitch
switch_at w s = if s == 0 then None else slice_get w.switches (s - 1)

-- the packet of this number, if it was sent
abbrev pub sent_at : World → ℕ → Option Message
sent_at w i = if i == 0 then None else slice_get w.net (i - 1)

abbrev pub is_stopped : World → ℕ → Bool
is_stopped w r = stands_in r w.stopped

abbrev pub live : World → List ℕ
live w = filter (λ r. not (is_stopped w r)) (replicas_below (length w.replicas))

abbrev pub client_of : World → ℕ → Client
client_of w c = unwrap_or (find (λ k. k.client == c) w.clients) (record { client = c; request = 0; outstanding = None })

abbrev pub with_client : Client → List Client → List Client
with_client new [] = new ∷ []
with_client new (k ∷ ks) = if k.client == new.client then new ∷ ks else k ∷ with_client new ks
