-- The configuration service: the master that removes stopped servers from a chain or from a primary-backup group (van Renesse and
-- Schneider, "Chain Replication"), and the replacement of a switch, whose successor starts only once all replicas that could
-- answer a read of it take nothing more of it (after Harmonia: Zhu and others, PVLDB 13, 2019).
use Rattle.std.specs.Prelude.{ℕ, ◌+◌, ◌-◌, Bool, true, false, not, ◌&&◌, ◌==◌, if◌then◌else◌, List, [], ◌∷◌, ◌++◌, length, map, filter, find, slice_index, Option, Some, None}
use Rattle.hm_base.specs.declared.node.Node.{Node}
use Rattle.hm_base.specs.declared.node.Node.TheVariants as node
use Rattle.hm_base.specs.declared.node.GroupKind.{GroupKind}
use Rattle.hm_base.specs.declared.node.GroupKind.TheVariants as kind
use Rattle.hm_base.specs.declared.why.Why.TheVariants as why
use Rattle.hm_packet.specs.declared.acted.Did.{Did}
use Rattle.hm_packet.specs.declared.acted.Did.TheVariants as did
use Rattle.hm_packet.specs.declared.body.Body.{Body}
use Rattle.hm_packet.specs.declared.body.Body.TheVariants as body
use Rattle.hm_packet.specs.declared.body.Refused.{Refused}
use Rattle.hm_packet.specs.Messages.{Message}
use Rattle.hm_packet.specs.Routing.{Routing}
use Rattle.hm_rules.specs.Senders.{same_node, number}
use Rattle.hm_rules.specs.Numbers.{stands_in, numbers_from, with_number}
use Rattle.hm_rules.specs.ReplicaSteps.{last_number}

pub record Service : Type 0 where
  pub kind : GroupKind
  pub members : List ℕ
  pub epoch : ℕ
  -- the number of the newest switch
  pub newest : ℕ
  -- whether the newest switch is being replaced
  pub retiring : Bool
  -- who takes nothing more of the newest switch, in the order of their numbers
  pub refused : List ℕ

-- the numbers of a group of this size
abbrev pub replicas_below : ℕ → List ℕ
replicas_below size = numbers_from 0 size

-- the service before its first call
abbrev pub served : GroupKind → ℕ → Service
served kind size = record { kind = kind; members = replicas_below size; epoch = 0; newest = 1; retiring = false; refused = [] }

abbrev pub normal_node : GroupKind → List ℕ → ℕ
normal_node kind.Chain members = slice_index members (length members - 1)
normal_node kind.Primary members = slice_index members 0
normal_node kind.Vr members = slice_index members 0

abbrev pub service_route : Service → Routing
service_route s = record { view = s.epoch; entry = slice_index s.members 0; normal = normal_node s.kind s.members; members = s.members }

-- the service after a call, and what it sends in order
pub record Serviced : Type 0 where
  pub service : Service
  pub outs : List Message

abbrev pub from_service : Node → Body → Message
from_service dst b = record { src = node.Config; dst = dst; body = b }

-- ---- removing a member

-- the group of Viewstamped Replication is fixed
abbrev pub is_fixed : GroupKind → Bool
is_fixed kind.Chain = false
is_fixed kind.Primary = false
is_fixed kind.Vr = true

abbrev pub is_member : Service → ℕ → Bool
is_member s replica = stands_in replica s.members

abbrev pub is_last : Service → Bool
is_last s = length s.members == 1

abbrev pub config_to : Service → ℕ → Message
config_to s member = from_service (node.Replica member) (body.Config (record { view = s.epoch; members = s.members }))

-- a new epoch is told to each of its members and to the newest switch
abbrev pub announces : Service → Serviced
announces s = record { service = s; outs = map (config_to s) s.members ++ from_service (node.Switch s.newest) (body.Route (service_route s)) ∷ [] }

-- the group without a member, where it isn't fixed and this is a member and not the only one
abbrev pub removes : Service → ℕ → Serviced
removes s replica = announces (record s { members = filter (λ m. not (m == replica)) s.members; epoch = s.epoch + 1 })

-- ---- replacing the switch

abbrev pub refuse_to : Service → ℕ → Message
refuse_to s member = from_service (node.Replica member) (body.Refuse (record { switch = s.newest }))

-- each member is asked to take nothing more of the newest switch
abbrev pub retires : Service → Serviced
retires s = record { service = record s { retiring = true }; outs = map (refuse_to s) s.members }

-- the service after a packet, and its answer
pub record Noted : Type 0 where
  pub service : Service
  pub did : Did

abbrev pub notes_refused : Service → ℕ → Refused → Noted
notes_refused s from answer =
    if not (s.retiring && (answer.switch == s.newest)) then record { service = s; did = did.Ignored why.Status }
    else if stands_in from s.refused then record { service = s; did = did.Ignored why.Repeat }
    else record { service = record s { refused = with_number from s.refused }; did = did.Done }

abbrev pub is_member_node : Service → Node → Bool
is_member_node s (node.Replica r) = is_member s r
is_member_node s other = false

abbrev pub on_refused : Service → Node → Body → Noted
on_refused s src (body.Refused answer) =
    if is_member_node s src then notes_refused s (number src) answer
    else record { service = s; did = did.Ignored why.Foreign }
on_refused s src other = record { service = s; did = did.Ignored why.Kind }

-- one packet at the service
abbrev pub service_step : Service → Message → Noted
service_step s m =
    if same_node m.dst node.Config then on_refused s m.src m.body
    else record { service = s; did = did.Ignored why.NotForMe }

-- the lowest listed member that hasn't refused the newest switch, if there is one
abbrev pub awaited : Service → List ℕ → Option ℕ
awaited s live = find (λ m. stands_in m live && not (stands_in m s.refused)) s.members

-- why the next switch isn't started
pub data StartFault : Type 0 where
  NotRetired : StartFault
  -- the lowest listed member that hasn't refused the newest switch
  NotRefused : (replica : ℕ) → StartFault
  -- the newest switch has the last number
  NoNumber : StartFault

abbrev pub fault_of : Service → Option ℕ → Option StartFault
fault_of s (Some replica) = Some (StartFault.NotRefused replica)
fault_of s None = if s.newest == last_number then Some StartFault.NoNumber else None

-- the first of these that holds, where `live` lists the replicas that may still answer
abbrev pub start_fault : Service → List ℕ → Option StartFault
start_fault s live = if s.retiring then fault_of s (awaited s live) else Some StartFault.NotRetired

-- the service once the next switch is started, which nobody has refused yet
abbrev pub starts : Service → Service
starts s = record s { newest = s.newest + 1; retiring = false; refused = [] }
