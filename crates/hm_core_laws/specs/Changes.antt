-- What an event may change of what a protocol's facts speak of.
use Rattle.std.specs.Prelude.{◌≡◌, ℕ, Bool, true, false, IsTrue, ◌||◌, List, ◌++◌, slice_get, Some, None, All}
use Rattle.hm_base.specs.declared.node.Node.TheVariants as node
use Rattle.hm_base.specs.Lists.{IsPrefix, IsIn}
use Rattle.hm_packet.specs.declared.acted.Did.TheVariants.{Done}
use Rattle.hm_packet.specs.declared.body.Body.{Body}
use Rattle.hm_packet.specs.declared.body.Body.TheVariants as body
use Rattle.hm_packet.specs.Messages.{Message}
use Rattle.hm_rules.specs.Senders.{client_sends, switch_sends}
use Rattle.hm_rules.specs.Replica.{Replica}
use Rattle.hm_rules.specs.ReplicaSteps.{Stepped}
use Rattle.hm_rules.specs.Viewstamped.{vr_timeout}
use Rattle.hm_rules.specs.Service.{is_fixed, is_member, is_last, removes, retires, service_step, start_fault, starts}
use Rattle.hm_rules.specs.World.{World, is_stopped, live}
use Rattle.hm_rules.specs.Deliveries.{replica_step, replica_tick, stepped}
use Rattle.hm_rules.specs.Happens.{serviced}

-- ---- the step of a replica

-- where it comes from: a packet that was sent, a tick, or a timeout in a fixed group
pub data Origin (w : World) (number : ℕ) (r : Replica) (s : Stepped) : Type 0 where
  Arrival : (m : Message) → IsIn m w.net → m.dst ≡ node.Replica number → s ≡ replica_step w.setup.kind r m → Origin w number r s
  Tick : s ≡ replica_tick w.setup.kind r → Origin w number r s
  Timeout : is_fixed w.setup.kind ≡ true → s ≡ vr_timeout r → Origin w number r s

-- a live replica may take it
pub record IsStep (w : World) (number : ℕ) (s : Stepped) : Type 0 where
  pub replica : Replica
  pub there : slice_get w.replicas number ≡ Some replica
  pub live : is_stopped w number ≡ false
  pub done : s.did ≡ Done
  pub origin : Origin w number replica s

-- ---- an event

-- what clients and switches send, and what the service sends but for a new epoch
abbrev pub is_quiet : Body → Bool
is_quiet (body.Refuse refuse) = true
is_quiet b = client_sends b || switch_sends b

-- what the service did: nothing, or it took in a packet, retired the newest switch, or started the next one
pub data Served (old new : World) : Type 0 where
  Rests : new.service ≡ old.service → Served old new
  Notes : (m : Message) → IsIn m old.net → new.service ≡ (service_step old.service m).service → Served old new
  Retires : new.service ≡ (retires old.service).service → Served old new
  Starts : start_fault old.service (live old) ≡ None → new.service ≡ starts old.service → Served old new

-- no replica takes a step, and the group stays
pub record IsQuiet (old new : World) : Type 0 where
  pub setup : new.setup ≡ old.setup
  pub replicas : new.replicas ≡ old.replicas
  pub declared : new.declared ≡ old.declared
  pub members : new.service.members ≡ old.service.members
  pub epoch : new.service.epoch ≡ old.service.epoch
  pub service : Served old new
  pub stopped : IsPrefix old.stopped new.stopped
  pub history : IsPrefix old.history new.history
  pub sent : List Message
  pub net : new.net ≡ old.net ++ sent
  pub kinds : All (λ (m : Message). IsTrue (is_quiet m.body)) sent

-- a stopped member is removed, and isn't the last one
pub record IsRemoval (old new : World) (number : ℕ) : Type 0 where
  pub free : is_fixed old.setup.kind ≡ false
  pub member : is_member old.service number ≡ true
  pub stopped : is_stopped old number ≡ true
  pub others : is_last old.service ≡ false
  pub after : new ≡ (serviced old (removes old.service number)).world

pub data Change (old new : World) : Type 0 where
  Quiet : IsQuiet old new → Change old new
  Step : (number : ℕ) (s : Stepped) → IsStep old number s → new ≡ record (stepped old number s) { cursor = new.cursor } → Change old new
  Removal : (number : ℕ) → IsRemoval old new number → Change old new
