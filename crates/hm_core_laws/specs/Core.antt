-- What holds of the world after every event, whatever the protocol of its replicas.
use Rattle.std.specs.Prelude.{◌≡◌, ℕ, ◌+◌, ◌<◌, ◌≤◌, List, [], length, map, slice_get, Some, None, All}
use Rattle.hm_base.specs.declared.stamp.Stamp.{Stamp}
use Rattle.hm_base.specs.declared.entry.Entry.{Entry}
use Rattle.hm_base.specs.declared.operation.Answer.{Answer}
use Rattle.hm_base.specs.Lists.{IsPrefix}
use Rattle.hm_base.specs.Taking.{held}
use Rattle.hm_packet.specs.Messages.{Message}
use Rattle.hm_order.specs.declared.mark.Mark.{Mark}
use Rattle.hm_order.specs.declared.mark.Mark.TheVariants.{Invoke, Reply}
use Rattle.hm_order.specs.declared.mark.Want.{Want}
use Rattle.hm_order.specs.Marks.{At}
use Rattle.hm_due_law.specs.Tidy.{IsTidy, HasWrite}
use Rattle.hm_due_law.specs.Agreed.{Agree}
use Rattle.hm_rules.specs.Switch.{AbstractSwitch}
use Rattle.hm_rules.specs.Replica.{Replica, applied}
use Rattle.hm_rules.specs.World.{Client, World, switch_at, client_of}
use Rattle.hm_core_laws.specs.Sourced.{puts, IsSourced}
use Rattle.hm_core_laws.specs.Packets.{op, WasAsked, Holds}

-- Its numbers are 1, 2, 3 and so on, one for each write that it sent; and the list has the write of its point, where that isn't 0.
pub record SwitchHolds (declared : List Entry) (net : List Message) (number : ℕ) (s : AbstractSwitch) : Type 0 where
  pub id : s.id ≡ number
  pub objects : map (λ (e : Entry). e.object) (puts number net) ≡ s.numbered
  pub stamps : (i : ℕ) (e : Entry) → At (puts number net) i e → e.stamp ≡ record { switch = number; seq = i + 1 }
  pub reached : s.point ≤ length s.numbered
  pub point : 0 < s.point → HasWrite declared (record { switch = number; seq = s.point })

-- what a client waits for was invoked, and wasn't answered
pub record Waits (history : List Mark) (k : Client) (asked : Want) : Type 0 where
  pub invoked : WasAsked history k.client k.request asked
  pub unanswered : (i : ℕ) (version : Stamp) (answer : Answer) → At history i (Reply (op k.client k.request) version answer) → ⊥

-- a client's requests are numbered upwards
pub record ClientHolds (history : List Mark) (number : ℕ) (k : Client) : Type 0 where
  pub client : k.client ≡ number
  pub above : (request i : ℕ) (asked : Want) → k.request < request → At history i (Invoke (op number request) asked) → ⊥
  pub waits : (asked : Want) → k.outstanding ≡ Some asked → Waits history k asked

-- a list of a replica, as an entry node builds them
pub record ListHolds (history : List Mark) (net : List Message) (log : List Entry) : Type 0 where
  pub sourced : All (IsSourced history net) log
  pub tidy : IsTidy log

-- what it holds, and that it applies what is declared
pub record ReplicaHolds (history : List Mark) (declared : List Entry) (net : List Message) (r : Replica) : Type 0 where
  pub log : ListHolds history net r.log
  pub staged : ListHolds history net (held [] r.staged)
  pub applied : IsPrefix (applied r) declared

pub record Core (w : World) : Type 0 where
  pub agree : Agree w.history w.declared
  pub sourced : All (IsSourced w.history w.net) w.declared
  pub packets : All (Holds w.history w.declared w.net) w.net
  pub switches : (number : ℕ) (s : AbstractSwitch) → switch_at w number ≡ Some s → SwitchHolds w.declared w.net number s
  -- a switch that wasn't started sent nothing
  pub unstarted : (number : ℕ) → switch_at w number ≡ None → puts number w.net ≡ []
  pub newest : w.service.newest ≡ length w.switches
  pub clients : (client : ℕ) → ClientHolds w.history client (client_of w client)
  pub replicas : (number : ℕ) (r : Replica) → slice_get w.replicas number ≡ Some r → ReplicaHolds w.history w.declared w.net r
