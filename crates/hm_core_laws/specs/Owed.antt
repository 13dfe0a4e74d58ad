-- What a protocol owes for each step of a live replica.
use Rattle.std.specs.Prelude.{ℕ, IsTrue, List, [], All}
use Rattle.hm_base.specs.declared.entry.Entry.{Entry}
use Rattle.hm_base.specs.Lists.{IsPrefix}
use Rattle.hm_base.specs.Taking.{held}
use Rattle.hm_packet.specs.Messages.{Message}
use Rattle.hm_rules.specs.Senders.{replica_sends}
use Rattle.hm_rules.specs.Replica.{applied}
use Rattle.hm_rules.specs.ReplicaSteps.{Stepped}
use Rattle.hm_rules.specs.Declared.{declared_after}
use Rattle.hm_rules.specs.World.{World}
use Rattle.hm_rules.specs.Deliveries.{stepped}
use Rattle.hm_core_laws.specs.Packets.{Holds}
use Rattle.hm_core_laws.specs.Core.{ListHolds}
use Rattle.hm_core_laws.specs.Changes.{IsStep}

-- the declared list after the step
abbrev pub declared_by : World → Stepped → List Entry
declared_by w s = declared_after w.declared s.replica.log s.declared.to

-- Its lists are of requests that were made and are in order; it declares a longer list and applies what is declared; what it sends
-- is true.
pub record StepSound (w : World) (number : ℕ) (s : Stepped) : Type 0 where
  pub log : ListHolds w.history w.net s.replica.log
  pub staged : ListHolds w.history w.net (held [] s.replica.staged)
  pub declared : IsPrefix w.declared (declared_by w s)
  pub applied : IsPrefix (applied s.replica) (declared_by w s)
  pub senders : All (λ (m : Message). IsTrue (replica_sends m.body)) s.outs
  pub sent : All (Holds (stepped w number s).history (stepped w number s).declared (stepped w number s).net) s.outs

-- every step that a live replica of this world may take
abbrev pub StepsSound : World → Type 0
StepsSound w = (number : ℕ) (s : Stepped) → IsStep w number s → StepSound w number s
