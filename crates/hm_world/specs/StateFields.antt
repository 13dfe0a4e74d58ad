-- The rules' world for a state, what holds of a state between events and in one, and how an event ends.
use Rattle.std.specs.Prelude.{◌≡◌, ℕ, ◌+◌, ◌*◌, ◌<◌, ◌≤◌, length, Option, None, vec_len, vec_capacity}
use Rattle.hm_base.specs.declared.node.Node.{Node}
use Rattle.hm_base.specs.Lists.{IsPrefix}
use Rattle.hm_core_laws.specs.Changes.{IsStep}
use Rattle.hm_core_laws.specs.Owed.{declared_by}
use Rattle.hm_packet.specs.declared.outcome.Outcome.{Outcome}
use Rattle.hm_packet.specs.Messages.{Message}
use Rattle.hm_packet.specs.Steps.{max_outs}
use Rattle.hm_rules.specs.ReplicaSteps.{Stepped}
use Rattle.hm_rules.specs.Deliveries as arrival
use Rattle.hm_rules.specs.Happens as rules
use Rattle.hm_rules.specs.Runs.{Slotted, slotted_after, finds_full_in, finds_full_with}
use Rattle.hm_rules.specs.Senders.{number}
use Rattle.hm_rules.specs.World as rule
use Rattle.hm_schedule.specs.Limits.{max_events}
use Rattle.hm_world.specs.Running.{switches_in, slots_in}
use Rattle.hm_world.specs.Setups.{setup_fault}
use Rattle.hm_world.specs.declared.state.State.{State}

abbrev pub world_of : State → rule.World
world_of s =
    record { setup = record { kind = s.group.kind; size = s.setup.size; stages = s.setup.stages; bits = s.setup.bits; life = s.setup.life; cap = s.group.cap }; net = s.net.packets; cursor = s.net.cursor; switches = switches_in s.switches; replicas = s.group.replicas; stopped = s.stopped.items; service = s.service; clients = s.clients.clients; declared = s.observer.declared; history = s.observer.history }

-- the rules' world with the slots of its switches
abbrev pub slotted_of : State → Slotted
slotted_of s = record { world = world_of s; slots = slots_in s.switches }

-- ---- what the rules give, with a write refused exactly where the slots of its switch are full

-- a packet that was sent arrives, if there is one
abbrev pub delivered : State → Option Message → rule.Happened
delivered s o = arrival.deliver (finds_full_with (slotted_of s) o) (world_of s) o

-- the same once the cursor has passed it
abbrev pub passed_on : State → Option Message → rule.Happened
passed_on s o = rules.next (finds_full_with (slotted_of s) o) (world_of s) o

-- it arrives at a node, and at a switch
abbrev pub arrives : State → Message → Node → rule.Happened
arrives s m node = arrival.to_node (finds_full_in (slotted_of s) (number node) m.body) (world_of s) m node

abbrev pub switched : State → Message → ℕ → rule.Happened
switched s m switch = arrival.to_switch (finds_full_in (slotted_of s) switch m.body) (world_of s) m switch (rule.switch_at (world_of s) switch)

-- ---- between events

-- what a step of a live replica declares goes on from the declared list
pub record IsReady (w : rule.World) : Type 0 where
  pub declared : (number : ℕ) (s : Stepped) → IsStep w number s → IsPrefix w.declared (declared_by w s)

pub record IsKept (s : State) : Type 0 where
  pub setup : setup_fault s.setup ≡ None
  pub events : s.events ≤ max_events
  pub net : s.net.limit ≤ max_outs * s.events
  pub steps : s.switches.steps ≤ s.events
  pub clients : s.clients.kept ≤ s.events
  pub service : s.service.kind ≡ s.group.kind

-- ---- in an event

-- there is room for all that one event may give
pub record HasRoom (s : State) : Type 0 where
  pub setup : setup_fault s.setup ≡ None
  pub few : s.events ≤ max_events
  pub net : length s.net.packets + max_outs ≤ s.net.limit
  pub sent : s.net.limit ≤ max_outs * s.events
  pub marks : length s.observer.history + s.group.cap + 1 ≤ s.observer.limit
  pub entries : s.group.cap ≤ s.observer.cap
  pub clients : s.clients.kept < s.clients.limit
  pub requests : s.clients.kept < s.events
  pub steps : s.switches.steps < s.events
  pub stops : vec_len s.stopped < vec_capacity s.stopped
  pub service : s.service.kind ≡ s.group.kind

pub record IsBegun (s : State) : Type 0 where
  pub room : HasRoom s
  pub ready : IsReady (world_of s)

-- what is said of a state between events is true again after one
pub record Keeps (old new : State) : Type 0 where
  pub setup : new.setup ≡ old.setup
  pub events : new.events ≡ old.events
  pub net : new.net.limit ≡ old.net.limit
  pub steps : new.switches.steps ≤ old.switches.steps + 1
  pub clients : new.clients.kept ≤ old.clients.kept + 1
  pub service : new.service.kind ≡ old.service.kind
  pub group : new.group.kind ≡ old.group.kind

-- an event that no switch has to do with ended as the rules say
pub record Quietly (old new : State) (o : Outcome) (h : rule.Happened) : Type 0 where
  pub world : world_of new ≡ h.world
  pub outcome : o ≡ h.outcome
  pub switches : new.switches ≡ old.switches
  pub keeps : Keeps old new

-- the same of any event: each write that was numbered went into its switch's slots
pub record Ends (old new : State) (o : Outcome) (h : rule.Happened) : Type 0 where
  pub world : slotted_of new ≡ slotted_after (slotted_of old) h.world
  pub outcome : o ≡ h.outcome
  pub keeps : Keeps old new
