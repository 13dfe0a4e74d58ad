-- What contracts see of a group, and a step of one of its replicas.
use Rattle.std.specs.Prelude.{◌≡◌, ◌≢◌, ℕ, ◌%◌, ◌≤◌, Bool, ◌&&◌, ◌==◌, nat_le, List, length, slice_get, slice_set, Some}
use Rattle.hm_base.specs.declared.node.GroupKind.{GroupKind}
use Rattle.hm_base.specs.declared.node.GroupKind.TheVariants as kind
use Rattle.hm_codec.specs.declared.acted.Acted.{Acted}
use Rattle.hm_packet.specs.declared.acted.Did.TheVariants.{Done}
use Rattle.hm_replica.specs.Given.{Gives}
use Rattle.hm_rules.specs.Replica.{Replica}
use Rattle.hm_rules.specs.ReplicaSteps.{Stepped}
use Rattle.hm_rules.specs.Service.{replicas_below}

-- a group of one to seven; one of Viewstamped Replication has an odd size
abbrev pub forms : GroupKind → ℕ → Bool
forms kind.Vr size = nat_le size 7 && (size % 2 == 1)
forms other size = nat_le 1 size && nat_le size 7

-- Members that never change are all replicas below an odd number.
pub record AreFixed (members : List ℕ) : Type 0 where
  pub numbered : members ≡ replicas_below (length members)
  pub few : length members ≤ 7
  pub odd : length members % 2 ≡ 1

-- the protocol, how many entries a log may have, and the replicas by number
pub record Grouped : Type 0 where
  pub kind : GroupKind
  pub cap : ℕ
  pub replicas : List Replica

-- a replica of these made a step, and what it gave is the step's
pub record IsStepAt (old new : List Replica) (number : ℕ) (acted : Acted) (s : Stepped) : Type 0 where
  pub replicas : new ≡ slice_set old number s.replica
  pub gives : Gives s.replica acted s

-- the same in a group, which stays as it was where the step wasn't done
pub record IsGroupStep (old new : Grouped) (number : ℕ) (acted : Acted) (s : Stepped) : Type 0 where
  pub same : new ≡ record old { replicas = slice_set old.replicas number s.replica }
  pub gives : Gives s.replica acted s
  pub idle : s.did ≢ Done → new ≡ old

-- the replica of this number made the step that is its own, among others and in a group
abbrev pub StepsAt : List Replica → List Replica → ℕ → Acted → (Replica → Stepped) → Type 0
StepsAt old new number acted step = (r : Replica) → slice_get old number ≡ Some r → IsStepAt old new number acted (step r)

abbrev pub GroupSteps : Grouped → Grouped → ℕ → Acted → (Replica → Stepped) → Type 0
GroupSteps old new number acted step = (r : Replica) → slice_get old.replicas number ≡ Some r → IsGroupStep old new number acted (step r)
