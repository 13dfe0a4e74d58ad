-- How a client's daemon ends, and what it took, sent and put by then.
use Rattle.std.specs.Prelude.{◌≡◌, ℕ, ◌<◌, ◌≤◌, ◌⊎◌, List, [], ◌∷◌, ◌++◌, length, Option, Some, None}
use Rattle.std.specs.List.{AllByRecursion}
use Rattle.std.specs.Io.KnownBytes.{Appends}
use Rattle.hm_base.specs.Lists.{IsPrefix}
use Rattle.hm_frame.specs.Links.{Loses, Gets, IsDry}
use Rattle.hm_frame.specs.declared.datagram.Item.{Item}
use Rattle.hm_outside.specs.Faults.{one_more}
use Rattle.hm_packet.specs.Messages.{Message}
use Rattle.hm_packet.specs.declared.body.Reply.{Reply}
use Rattle.hm_daemon.specs.Asking.{request_of, reply_in, sends, reply_head, reply_line}
use Rattle.hm_worker.specs.Posts.{posts_of, AreHeard}
use Rattle.hm_daemon.specs.Serves.{Passing, IsIdle}
use Rattle.hm_worker.specs.Heard.{Heard}
use Rattle.hm_daemon.specs.declared.status.NodeStatus.{NodeStatus}
use Rattle.hm_daemon.specs.declared.status.NodeStatus.TheVariants as status
use Rattle.hm_daemon.specs.declared.words.ClientWords.{ClientWords}

-- what a sink tells before and after some calls, and its count of faults
pub record Putting : Type 0 where
  pub held : Option (List ℕ)
  pub put : Option (List ℕ)
  pub before : ℕ
  pub after : ℕ

-- nothing was put, and no call failed
pub record IsUnput (k : Putting) : Type 0 where
  pub same : Appends k.held k.put []
  pub sound : k.after ≡ k.before

pub record IsIdleClient (p : Passing) (k : Putting) : Type 0 where
  pub link : IsIdle p
  pub sink : IsUnput k

-- this was taken and heard, none of it the reply
pub record HasWaited (w : ClientWords) (items : List Item) (heard : List Heard) : Type 0 where
  pub are_heard : AreHeard items heard
  pub none : AllByRecursion (λ h. reply_in w h ≡ None) heard

-- what was taken and sent before the reply came
pub record HasAsked (w : ClientWords) (count : ℕ) (p : Passing) : Type 0 where
  pub items : List Item
  pub heard : List Heard
  pub waited : HasWaited w items heard
  pub counted : length items ≡ count
  pub taken : Loses p.coming p.came items
  pub sent : Gets p.sent p.posted (posts_of (sends w heard))

-- the reply came
pub record HasReply (w : ClientWords) (reply : Reply) (p : Passing) : Type 0 where
  pub items : List Item
  pub heard : List Heard
  pub waited : HasWaited w items heard
  pub item : Item
  pub last : Heard
  pub is_heard : AreHeard (items ++ item ∷ []) (heard ++ last ∷ [])
  pub reply_is : reply_in w last ≡ Some reply
  pub within : length items < w.turns
  pub taken : Loses p.coming p.came (items ++ item ∷ [])
  pub sent : Gets p.sent p.posted (posts_of (sends w heard))
  pub sound : p.after ≡ p.before

-- a take failed: all that was to be sent by then was sent
pub record HasNotHeard (w : ClientWords) (p : Passing) : Type 0 where
  pub count : ℕ
  pub within : count < w.turns
  pub has_asked : HasAsked w count p
  pub failed : p.after ≡ one_more p.before

-- a send failed: the last request that was to be sent wasn't, and those before it were
pub record IsCutAsking (w : ClientWords) (p : Passing) : Type 0 where
  pub items : List Item
  pub heard : List Heard
  pub waited : HasWaited w items heard
  pub within : length items ≤ w.turns
  pub taken : Loses p.coming p.came items
  pub earlier : List Message
  pub last : sends w heard ≡ earlier ++ request_of w ∷ []
  pub sent : Gets p.sent p.posted (posts_of earlier)
  pub failed : p.after ≡ one_more p.before

pub record PutsReply (w : ClientWords) (p : Passing) (k : Putting) : Type 0 where
  pub reply : Reply
  pub has_reply : HasReply w reply p
  pub written : Appends k.held k.put (reply_line (reply_head w.op) reply)
  pub sound : k.after ≡ k.before

pub record PutsReplyFront (w : ClientWords) (p : Passing) (k : Putting) : Type 0 where
  pub reply : Reply
  pub has_reply : HasReply w reply p
  pub front : List ℕ
  pub is_front : IsPrefix front (reply_line (reply_head w.op) reply)
  pub written : Appends k.held k.put front
  pub failed : k.after ≡ one_more k.before

pub record EndsUnanswered (w : ClientWords) (p : Passing) : Type 0 where
  pub count : ℕ
  pub within : count < w.turns
  pub has_asked : HasAsked w count p
  pub dry : IsDry p.came
  pub sound : p.after ≡ p.before

pub record SpendsTurns (w : ClientWords) (p : Passing) : Type 0 where
  pub has_asked : HasAsked w w.turns p
  pub sound : p.after ≡ p.before

abbrev pub Asks : NodeStatus → ClientWords → Passing → Putting → Type 0
Asks status.Done w p k = PutsReply w p k
Asks status.WriteFault w p k = PutsReplyFront w p k
Asks status.NoReply w p k = EndsUnanswered w p × IsUnput k
Asks status.TurnsSpent w p k = SpendsTurns w p × IsUnput k
Asks status.LinkFault w p k = (HasNotHeard w p ⊎ IsCutAsking w p) × IsUnput k
Asks status.NoMemory w p k = IsIdleClient p k
Asks other w p k = ⊥
