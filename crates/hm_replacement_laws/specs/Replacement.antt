-- One accepted switch at a time: a switch is started only once no live replica takes anything of those before it.
use Rattle.std.specs.Prelude.{◌≡◌, ◌<◌, ◌≤◌, ℕ, ◌+◌, false, IsTrue, IsSome, List, Some, None, All, slice_get}
use Rattle.hm_base.specs.declared.entry.Entry.{Entry}
use Rattle.hm_base.specs.declared.node.GroupKind.{GroupKind}
use Rattle.hm_base.specs.declared.node.GroupKind.TheVariants as kind
use Rattle.hm_base.specs.declared.node.Node.TheVariants as node
use Rattle.hm_base.specs.Stamps.{◌≼◌}
use Rattle.hm_order.specs.Marks.{At}
use Rattle.hm_packet.specs.declared.acted.Did.TheVariants.{Done}
use Rattle.hm_packet.specs.declared.body.Body.{Body}
use Rattle.hm_packet.specs.declared.body.Body.TheVariants as body
use Rattle.hm_packet.specs.declared.body.FastRead.{FastRead}
use Rattle.hm_packet.specs.Messages.{Message}
use Rattle.hm_rules.specs.Chain.{chain_normal_read}
use Rattle.hm_rules.specs.Deliveries.{replica_step}
use Rattle.hm_rules.specs.Numbers.{stands_in}
use Rattle.hm_rules.specs.PrimaryBackup.{primary_normal_read}
use Rattle.hm_rules.specs.Replica.{Replica, first_member, last_member}
use Rattle.hm_rules.specs.ReplicaSteps.{Stepped, stamped_read}
use Rattle.hm_rules.specs.Switch.{AbstractSwitch}
use Rattle.hm_rules.specs.Viewstamped.{vr_normal_read}
use Rattle.hm_rules.specs.Votes.{primary_of}
use Rattle.hm_rules.specs.World.{World, is_stopped, switch_at}

abbrev pub ToldIn : List Replica → Message → Body → Type 0
ToldIn replicas m (body.Refused refused) = (n : ℕ) (r : Replica) → m.src ≡ node.Replica n → slice_get replicas n ≡ Some r → refused.switch < r.accepted
ToldIn replicas m other = Unit {0}

-- a replica that told that it refuses a switch takes only later ones
abbrev pub IsTold : List Replica → Message → Type 0
IsTold replicas m = ToldIn replicas m m.body

pub record ReplacementHolds (w : World) : Type 0 where
  pub me : (n : ℕ) (r : Replica) → slice_get w.replicas n ≡ Some r → r.me ≡ n
  -- each live replica is a member
  pub listed : (n : ℕ) (r : Replica) → slice_get w.replicas n ≡ Some r → is_stopped w n ≡ false → IsTrue (stands_in n w.service.members)
  pub told : All (IsTold w.replicas) w.net
  pub noted : (n : ℕ) (r : Replica) → slice_get w.replicas n ≡ Some r → IsTrue (stands_in n w.service.refused) → w.service.newest < r.accepted
  pub accepted : (n : ℕ) (r : Replica) → slice_get w.replicas n ≡ Some r → is_stopped w n ≡ false → w.service.newest ≤ r.accepted

-- no switch was started that is above the one that a live replica takes
abbrev pub NoneStartedAbove : World → Type 0
NoneStartedAbove w = (n : ℕ) (r : Replica) → slice_get w.replicas n ≡ Some r → is_stopped w n ≡ false → (number : ℕ) (s : AbstractSwitch) → switch_at w number ≡ Some s → number ≤ r.accepted

-- no entry has a lower stamp than one before it
abbrev pub StampsNeverFall : List Entry → Type 0
StampsNeverFall log = (i j : ℕ) (e later : Entry) → i < j → At log i e → At log j later → e.stamp ≼ later.stamp

-- What a replica makes of a stamped read as if it had no stamp: it is a normal read, here or at the node for those.
abbrev pub reads_unstamped : GroupKind → Replica → FastRead → Stepped
reads_unstamped kind.Chain r read = stamped_read None (last_member r) (chain_normal_read r) r read
reads_unstamped kind.Primary r read = stamped_read None (first_member r) (primary_normal_read r) r read
reads_unstamped kind.Vr r read = stamped_read None (primary_of r r.view) (vr_normal_read r) r read

-- where the next switch was started, a live replica answers no read by the stamp of the one before it
abbrev pub StampsEnd : World → Type 0
StampsEnd w = (n : ℕ) (r : Replica) (m : Message) (read : FastRead)
    → slice_get w.replicas n ≡ Some r
    → is_stopped w n ≡ false
    → m.body ≡ body.FastRead read
    → IsSome (switch_at w (read.stamp.switch + 1))
    → (replica_step w.setup.kind r m).did ≡ Done
    → replica_step w.setup.kind r m ≡ reads_unstamped w.setup.kind r read
