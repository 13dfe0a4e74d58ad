-- What holds of a chain after every event, for all of its members at once: an earlier member's log begins with a later one's, a page
-- in the net is part of the log of each member before the one that takes it, and the tail's log is the declared list (after van
-- Renesse and Schneider, "Chain Replication").
use Rattle.std.specs.Prelude.{◌≡◌, ℕ, ◌<◌, ◌≤◌, ◌⊎◌, true, false, IsTrue, List, [], length, None, All}
use Rattle.hm_base.specs.declared.entry.Entry.{Entry}
use Rattle.hm_base.specs.declared.node.GroupKind.TheVariants.{Chain}
use Rattle.hm_base.specs.Lists.{IsPrefix, IsSlice}
use Rattle.hm_base.specs.Logs.{is_write}
use Rattle.hm_packet.specs.declared.body.Body.{Body}
use Rattle.hm_packet.specs.declared.body.Body.TheVariants as body
use Rattle.hm_packet.specs.declared.body.Feed.{Feed}
use Rattle.hm_packet.specs.Messages.{Message}
use Rattle.hm_order.specs.Marks.{At}
use Rattle.hm_rules.specs.Senders.{number}
use Rattle.hm_rules.specs.Replica.{Replica}
use Rattle.hm_rules.specs.Chain.{is_tail}
use Rattle.hm_rules.specs.World.{World, is_stopped}
use Rattle.hm_core_laws.specs.Epochs.{HasMember, EpochsHold}

-- ---- replicas

abbrev pub AreWrites : List Entry → Type 0
AreWrites log = All (λ (e : Entry). IsTrue (is_write e)) log

-- The replica of this number has the members of its epoch, and its log of writes stands in front in that of each member before it.
pub record MemberHolds (epochs : List (List ℕ)) (replicas : List Replica) (n : ℕ) (r : Replica) : Type 0 where
  pub me : r.me ≡ n
  pub unstaged : r.staged ≡ None
  pub known : r.known ≤ length r.log
  pub writes : AreWrites r.log
  pub epoch : At epochs r.view r.members
  pub nested : (i : ℕ) (earlier : Replica) → At replicas i earlier → HasMember r.members i → i < n → IsPrefix r.log earlier.log

-- ---- packets

-- the page is empty, or stands in the list from its first place on
abbrev pub IsPageOf : ℕ → List Entry → List Entry → Type 0
IsPageOf first entries log = (entries ≡ []) ⊎ IsSlice first entries log

-- it was sent in one of the epochs, and is a page of the log of each member up to its sender
pub record PageFits (epochs : List (List ℕ)) (replicas : List Replica) (from : ℕ) (feed : Feed) : Type 0 where
  pub members : List ℕ
  pub epoch : At epochs feed.view members
  pub pages : (i : ℕ) (r : Replica) → At replicas i r → HasMember members i → i ≤ from → IsPageOf feed.first feed.entries r.log

abbrev pub BodyFits : List (List ℕ) → List Replica → ℕ → Body → Type 0
BodyFits epochs replicas from (body.Feed feed) = PageFits epochs replicas from feed
BodyFits epochs replicas from (body.Config config) = At epochs config.view config.members
BodyFits epochs replicas from other = Unit {0}

abbrev pub Fits : List (List ℕ) → List Replica → Message → Type 0
Fits epochs replicas m = BodyFits epochs replicas (number m.src) m.body

-- ---- the chain

pub record ChainHolds (w : World) : Type 0 where
  pub kind : w.setup.kind ≡ Chain
  pub epochs : List (List ℕ)
  pub groups : EpochsHold w epochs
  pub members : (n : ℕ) (r : Replica) → At w.replicas n r → MemberHolds epochs w.replicas n r
  pub packets : All (Fits epochs w.replicas) w.net
  -- each live log begins with the declared list
  pub prefix : (n : ℕ) (r : Replica) → At w.replicas n r → is_stopped w n ≡ false → IsPrefix w.declared r.log
  -- a live tail holds the declared list
  pub tail : (n : ℕ) (r : Replica) → At w.replicas n r → is_stopped w n ≡ false → is_tail r ≡ true → r.log ≡ w.declared
