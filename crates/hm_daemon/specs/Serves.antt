-- How a replica's daemon ends, and what it took and sent by then.
use Rattle.std.specs.Prelude.{◌≡◌, ℕ, ◌<◌, ◌≤◌, ◌⊎◌, List, [], ◌∷◌, ◌++◌, length, Option, Result, Ok, Err}
use Rattle.hm_base.specs.Lists.{IsPrefix}
use Rattle.hm_frame.specs.Links.{Loses, Gets, Keeps, IsDry}
use Rattle.hm_frame.specs.declared.datagram.Item.{Item}
use Rattle.hm_frame.specs.declared.datagram.Posted.{Posted}
use Rattle.hm_outside.specs.Faults.{one_more}
use Rattle.hm_packet.specs.Messages.{Message}
use Rattle.hm_rules.specs.Replica.{opened}
use Rattle.hm_rules.specs.Service.{replicas_below}
use Rattle.hm_worker.specs.Posts.{posts_of, IsHeard, AreHeard}
use Rattle.hm_worker.specs.Heard.{Heard}
use Rattle.hm_daemon.specs.Serving.{Serving, hears, after, outs_of}
use Rattle.hm_daemon.specs.declared.status.NodeStatus.{NodeStatus}
use Rattle.hm_daemon.specs.declared.status.NodeStatus.TheVariants as status
use Rattle.hm_daemon.specs.declared.words.ReplicaWords.{ReplicaWords}

-- what a link tells before and after some calls, and its count of faults
pub record Passing : Type 0 where
  pub coming : Option (List Item)
  pub came : Option (List Item)
  pub sent : Option (List Posted)
  pub posted : Option (List Posted)
  pub before : ℕ
  pub after : ℕ

-- nothing was taken or sent, and no call failed
pub record IsIdle (p : Passing) : Type 0 where
  pub untaken : Keeps p.coming p.came
  pub unsent : Keeps p.sent p.posted
  pub sound : p.after ≡ p.before

-- the replica before its first packet
abbrev pub starts : ReplicaWords → Serving
starts w = record { kind = w.kind; patience = w.patience; left = w.patience; replica = opened w.me (replicas_below w.size) w.cap }

-- all that was taken was heard, and all the packets of it were sent
pub record HasServed (s last : Serving) (count : ℕ) (p : Passing) : Type 0 where
  pub items : List Item
  pub heard : List Heard
  pub are_heard : AreHeard items heard
  pub counted : length items ≡ count
  pub taken : Loses p.coming p.came items
  pub sent : Gets p.sent p.posted (posts_of (outs_of s heard))
  pub standing : last ≡ after s heard

-- so much was heard, and of the packets of the last of it some at the front were sent
pub record IsCutServing (s : Serving) (turns : ℕ) (p : Passing) : Type 0 where
  pub items : List Item
  pub earlier : List Heard
  pub last : Heard
  pub are_heard : AreHeard items (earlier ++ last ∷ [])
  pub within : length items ≤ turns
  pub taken : Loses p.coming p.came items
  pub front : List Message
  pub is_front : IsPrefix front (hears (after s earlier) last).outs
  pub sent : Gets p.sent p.posted (posts_of (outs_of s earlier ++ front))

-- what was taken and sent within the turns, by a take that ended or failed
pub record IsServing (s : Serving) (turns : ℕ) (p : Passing) : Type 0 where
  pub last : Serving
  pub count : ℕ
  pub within : count < turns
  pub has_served : HasServed s last count p

pub record IsWholeServing (s : Serving) (turns : ℕ) (p : Passing) : Type 0 where
  pub last : Serving
  pub has_served : HasServed s last turns p

abbrev pub Serves : NodeStatus → Serving → ℕ → Passing → Type 0
Serves status.Done s turns p = IsServing s turns p × IsDry p.came × (p.after ≡ p.before)
Serves status.TurnsSpent s turns p = IsWholeServing s turns p × (p.after ≡ p.before)
Serves status.LinkFault s turns p = (IsServing s turns p ⊎ IsCutServing s turns p) × (p.after ≡ one_more p.before)
Serves status.NoMemory s turns p = IsIdle p
Serves other s turns p = ⊥

-- ---- one turn

-- one item was taken and heard, and what the replica sends of it is this
pub record TakesOne (s now : Serving) (outs : List Message) (coming came : Option (List Item)) : Type 0 where
  pub item : Item
  pub heard : Heard
  pub is_heard : IsHeard item heard
  pub taken : Loses coming came (item ∷ [])
  pub served : hears s heard ≡ record { serving = now; outs = outs }

pub record HasTurned (s now : Serving) (p : Passing) : Type 0 where
  pub outs : List Message
  pub takes : TakesOne s now outs p.coming p.came
  pub sent : Gets p.sent p.posted (posts_of outs)
  pub sound : p.after ≡ p.before

pub record HasEnded (s now : Serving) (p : Passing) : Type 0 where
  pub dry : IsDry p.came
  pub untaken : Keeps p.coming p.came
  pub unsent : Keeps p.sent p.posted
  pub sound : p.after ≡ p.before
  pub same : now ≡ s

pub record HasNotTaken (p : Passing) : Type 0 where
  pub untaken : Keeps p.coming p.came
  pub unsent : Keeps p.sent p.posted

pub record HasNotSent (s now : Serving) (p : Passing) : Type 0 where
  pub outs : List Message
  pub takes : TakesOne s now outs p.coming p.came
  pub front : List Message
  pub is_front : IsPrefix front outs
  pub sent : Gets p.sent p.posted (posts_of front)

abbrev pub Turns : {T : Type 0} → Result T NodeStatus → Serving → Serving → Passing → Type 0
Turns (Ok done) s now p = HasTurned s now p
Turns (Err status.Done) s now p = HasEnded s now p
Turns (Err status.LinkFault) s now p = (HasNotTaken p ⊎ HasNotSent s now p) × (p.after ≡ one_more p.before)
Turns (Err other) s now p = ⊥
