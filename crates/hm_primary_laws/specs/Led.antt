-- What holds of a primary-backup group after every event.
use Rattle.std.specs.Prelude.{◌≡◌, ℕ, suc, ◌<◌, ◌≤◌, ◌⊎◌, Bool, true, false, List, [], length, take, Option, Some, None, All, slice_index, slice_get, unwrap_or}
use Rattle.hm_base.specs.declared.entry.Entry.{Entry}
use Rattle.hm_base.specs.declared.node.GroupKind.TheVariants.{Primary}
use Rattle.hm_base.specs.Lists.{IsPrefix, IsSlice}
use Rattle.hm_packet.specs.declared.body.Body.{Body}
use Rattle.hm_packet.specs.declared.body.Body.TheVariants as body
use Rattle.hm_packet.specs.declared.body.Feed.{Feed}
use Rattle.hm_packet.specs.declared.body.FeedAck.{FeedAck}
use Rattle.hm_packet.specs.Messages.{Message}
use Rattle.hm_order.specs.Marks.{At}
use Rattle.hm_rules.specs.Numbers.{stands_in}
use Rattle.hm_rules.specs.Senders.{number}
use Rattle.hm_rules.specs.Replica.{Replica, applied, acked_by}
use Rattle.hm_rules.specs.PrimaryBackup.{is_primary, is_settled}
use Rattle.hm_rules.specs.World.{World}
use Rattle.hm_core_laws.specs.Core.{ListHolds}
use Rattle.hm_core_laws.specs.Epochs.{EpochsHold}
use Rattle.hm_view_laws.specs.Leads.{Lead}

-- the first member of an epoch
abbrev pub first_in : List (List ℕ) → ℕ → ℕ
first_in epochs e = slice_index (unwrap_or (slice_get epochs e) []) 0

-- it is in a later epoch, or in this one and stages no list
abbrev pub IsPast : Replica → ℕ → Type 0
IsPast r e = (e < r.view) ⊎ ((e ≡ r.view) × (r.staged ≡ None))

-- ---- replicas

pub record LeadsHold (leads : ℕ → Lead) (r : Replica) : Type 0 where
  pub begun : (leads r.view).begun ≡ true
  pub log : r.log ≡ (leads r.view).log
  pub start : r.start ≡ (leads r.view).start
  pub unstaged : r.staged ≡ None
  pub within : (q : ℕ) → acked_by r q ≤ length r.log
  pub noted : (q : ℕ) → 0 < acked_by r q → r.start ≤ acked_by r q → acked_by r q < (leads r.view).held q

pub record FollowsHold (leads : ℕ → Lead) (r : Replica) : Type 0 where
  pub begun : (leads r.view).begun ≡ true
  pub from : (leads r.view).start ≤ length r.log
  pub begins : IsPrefix r.log (leads r.view).log

pub record StagesHold (leads : ℕ → Lead) (declared : List Entry) (r : Replica) (list : List Entry) : Type 0 where
  pub applied_first : IsPrefix (applied r) list
  pub begun : (leads r.view).begun ≡ true → IsPrefix list (leads r.view).log
  pub waits : (leads r.view).begun ≡ false → IsPrefix list declared

abbrev pub BackupHolds : (ℕ → Lead) → List Entry → Replica → Option (List Entry) → Type 0
BackupHolds leads declared r None = FollowsHold leads r
BackupHolds leads declared r (Some list) = StagesHold leads declared r list

abbrev pub RoleHolds : (ℕ → Lead) → List Entry → Replica → Bool → Type 0
RoleHolds leads declared r true = LeadsHold leads r
RoleHolds leads declared r false = BackupHolds leads declared r r.staged

pub record MemberHolds (epochs : List (List ℕ)) (leads : ℕ → Lead) (declared : List Entry) (n : ℕ) (r : Replica) : Type 0 where
  pub me : r.me ≡ n
  pub epoch : At epochs r.view r.members
  pub known : r.known ≤ length r.log
  pub applied : IsPrefix (applied r) declared
  pub role : RoleHolds leads declared r (is_primary r)
  pub own : r.staged ≡ None → (leads r.view).held n ≡ suc (length r.log)
  pub lower : (e : ℕ) → 0 < (leads e).held n → IsPast r e

-- ---- epochs

pub record EpochHolds (epochs : List (List ℕ)) (leads : ℕ → Lead) (replicas : List Replica) (e : ℕ) : Type 0 where
  pub among : e < length epochs
  pub long : (leads e).start ≤ length (leads e).log
  -- its primary has gone through it
  pub led : (r : Replica) → At replicas (first_in epochs e) r → e ≤ r.view

-- ---- packets

pub record CommitHolds (leads : ℕ → Lead) (declared : List Entry) (view len : ℕ) : Type 0 where
  pub begun : (leads view).begun ≡ true
  pub fits : len ≤ length (leads view).log
  pub prefix : IsPrefix (take len (leads view).log) declared

pub record FeedHolds (leads : ℕ → Lead) (declared : List Entry) (feed : Feed) : Type 0 where
  pub starts : feed.start ≡ (leads feed.view).start
  pub slice : IsSlice feed.first feed.entries (leads feed.view).log
  pub commits : CommitHolds leads declared feed.view feed.commit

pub record AckHolds (leads : ℕ → Lead) (from : ℕ) (ack : FeedAck) : Type 0 where
  pub begun : (leads ack.view).begun ≡ true
  pub held : (leads ack.view).start ≤ ack.len → ack.len < (leads ack.view).held from

abbrev pub BodyFits : List (List ℕ) → (ℕ → Lead) → List Entry → ℕ → Body → Type 0
BodyFits epochs leads declared from (body.Feed feed) = FeedHolds leads declared feed
BodyFits epochs leads declared from (body.FeedAck ack) = AckHolds leads from ack
BodyFits epochs leads declared from (body.Known told) = CommitHolds leads declared told.view told.len
BodyFits epochs leads declared from (body.Config config) = At epochs config.view config.members
BodyFits epochs leads declared from other = Unit {0}

abbrev pub Fits : List (List ℕ) → (ℕ → Lead) → List Entry → Message → Type 0
Fits epochs leads declared m = BodyFits epochs leads declared (number m.src) m.body

-- ---- the group

-- a live primary: it is the only one
pub record IsLivePrimary (stopped : List ℕ) (replicas : List Replica) (n : ℕ) (r : Replica) : Type 0 where
  pub there : At replicas n r
  pub live : stands_in n stopped ≡ false
  pub primary : is_primary r ≡ true

-- what another replica holds of a primary's log
pub record KeepsFront (log other : List Entry) (len : ℕ) : Type 0 where
  pub fits : len ≤ length log
  pub prefix : IsPrefix (take len log) other

-- what holds also in the middle of a step
pub record GroupHolds (epochs : List (List ℕ)) (stopped : List ℕ) (replicas : List Replica) (leads : ℕ → Lead) (declared : List Entry) : Type 0 where
  pub begun : (e : ℕ) → (leads e).begun ≡ true → EpochHolds epochs leads replicas e
  pub unbegun : (e q : ℕ) → (leads e).begun ≡ false → (leads e).held q ≡ 0
  pub members : (n : ℕ) (r : Replica) → At replicas n r → MemberHolds epochs leads declared n r
  -- what a replica held of a live primary's log is in front of its own
  pub kept : (n b : ℕ) (lead r : Replica) → IsLivePrimary stopped replicas n lead → At replicas b r → (m : ℕ) → m < (leads lead.view).held b → KeepsFront lead.log r.log m
  -- each live log begins with the declared list
  pub prefix : (n : ℕ) (r : Replica) → At replicas n r → stands_in n stopped ≡ false → IsPrefix declared r.log
  -- the declared list rests until each live member holds the log with which an epoch began
  pub rests : (e n : ℕ) (r : Replica) → (leads e).begun ≡ true → At replicas n r → stands_in n stopped ≡ false → IsPast r e ⊎ IsPrefix declared (take (leads e).start (leads e).log)

-- a primary that is settled knows all that is declared, and nothing behind its start is declared before
pub record SettledHolds (declared : List Entry) (r : Replica) : Type 0 where
  pub settled : is_settled r ≡ true → r.known ≡ length declared
  pub unsettled : is_settled r ≡ false → length declared ≤ r.start

pub record PrimaryHolds (w : World) : Type 0 where
  pub kind : w.setup.kind ≡ Primary
  pub epochs : List (List ℕ)
  pub groups : EpochsHold w epochs
  pub leads : ℕ → Lead
  pub logs : (e : ℕ) → (leads e).begun ≡ true → ListHolds w.history w.net (leads e).log
  pub packets : All (Fits epochs leads w.declared) w.net
  pub group : GroupHolds epochs w.stopped w.replicas leads w.declared
  pub settled : (n : ℕ) (r : Replica) → IsLivePrimary w.stopped w.replicas n r → SettledHolds w.declared r
