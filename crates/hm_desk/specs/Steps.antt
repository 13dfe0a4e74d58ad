-- One order at a time: what comes of reading it, of carrying it out, and of writing its line.
use Rattle.std.specs.Prelude.{◌≡◌, ℕ, ◌⊎◌, List, [], ◌∷◌, ◌++◌, Option, Some, Result, Ok, Err}
use Rattle.std.specs.Io.KnownBytes.{Appends}
use Rattle.hm_base.specs.Lists.{IsPrefix}
use Rattle.hm_frame.specs.Links.{Gets, Keeps}
use Rattle.hm_frame.specs.declared.datagram.Item.{Item}
use Rattle.hm_outside.specs.Faults.{one_more}
use Rattle.hm_outside.specs.Puts.{PutsFront}
use Rattle.hm_packet.specs.Messages.{Message}
use Rattle.hm_rules.specs.Service.{Service}
use Rattle.hm_schedule.specs.LineTexts.{IsLine}
use Rattle.hm_schedule.specs.Lines.{Moves, IsFinished}
use Rattle.hm_schedule.specs.declared.line.LineReason.{LineReason}
use Rattle.hm_worker.specs.Posts.{posts_of}
use Rattle.hm_daemon.specs.declared.status.NodeStatus.{NodeStatus}
use Rattle.hm_daemon.specs.declared.status.NodeStatus.TheVariants as status
use Rattle.hm_desk.specs.Deeds.{Deed, Takes, does, order_of, outcome_line}
use Rattle.hm_desk.specs.Devices.{SourceState, LinkState, SinkState}
use Rattle.hm_desk.specs.Ends.{IsRefused}
use Rattle.hm_operator.specs.Orders.{IsLawful, order_line}
use Rattle.hm_operator.specs.declared.order.Order.{Order}
use Rattle.hm_operator.specs.declared.order.Order.TheVariants as order
use Rattle.hm_desk.specs.declared.outcome.Outcome.{Outcome}

-- ---- reading it

-- bytes were cut off, and those that the source told are refused
pub record ComesBadly (r : LineReason) (ahead now : List ℕ) (a b : SourceState) : Type 0 where
  pub cut : List ℕ
  pub moves : Moves ahead now a.left b.left cut
  pub refused : (bytes : List ℕ) → a.left ≡ Some bytes → IsRefused (ahead ++ bytes) r
  pub sound : b.faults ≡ a.faults

pub record ComesEnd (ahead now : List ℕ) (a b : SourceState) : Type 0 where
  pub moves : Moves ahead now a.left b.left []
  pub finished : IsFinished now b.left
  pub sound : b.faults ≡ a.faults

pub record ComesNothing (ahead now : List ℕ) (a b : SourceState) : Type 0 where
  pub moves : Moves ahead now a.left b.left []
  pub within : IsLine now
  pub failed : b.faults ≡ one_more a.faults

pub record ComesOrder (o : Order) (ahead now : List ℕ) (a b : SourceState) : Type 0 where
  pub lawful : IsLawful o
  pub moves : Moves ahead now a.left b.left (order_line o)
  pub sound : b.faults ≡ a.faults

-- what comes as the line of this number
abbrev pub Comes : Result Order NodeStatus → ℕ → List ℕ → List ℕ → SourceState → SourceState → Type 0
Comes (Ok o) line ahead now a b = ComesOrder o ahead now a b
Comes (Err status.Done) line ahead now a b = ComesEnd ahead now a b
Comes (Err (status.BadLine n r)) line ahead now a b = (n ≡ line) × ComesBadly r ahead now a b
Comes (Err status.ReadFault) line ahead now a b = ComesNothing ahead now a b
Comes (Err other) line ahead now a b = ⊥

-- ---- carrying it out

-- it was carried out, and of it comes this, which isn't sent yet
pub record Carries (o : Order) (s now : Service) (outs : List Message) (came_to : Outcome) (coming came : Option (List Item)) : Type 0 where
  pub deed : Deed
  pub order_is : order_of deed ≡ o
  pub done : does s deed ≡ record { service = now; outs = outs; came_to = came_to }
  pub taken : Takes (deed ∷ []) coming came

-- it was carried out, and what it sends was sent
pub record HasActed (o : Order) (deed : Deed) (s : Service) (l m : LinkState) : Type 0 where
  pub order_is : order_of deed ≡ o
  pub taken : Takes (deed ∷ []) l.coming m.coming
  pub sent : Gets l.sent m.sent (posts_of (does s deed).outs)
  pub sound : m.faults ≡ l.faults

pub record HasNotTaken (o : Order) (l m : LinkState) : Type 0 where
  pub order_is : o ≡ order.Take
  pub untaken : Keeps l.coming m.coming
  pub unsent : Keeps l.sent m.sent

pub record HasNotSent (o : Order) (s : Service) (l m : LinkState) : Type 0 where
  pub deed : Deed
  pub order_is : order_of deed ≡ o
  pub taken : Takes (deed ∷ []) l.coming m.coming
  pub front : List Message
  pub is_front : IsPrefix front (does s deed).outs
  pub sent : Gets l.sent m.sent (posts_of front)

-- ---- writing its line

pub record HasPut (text : List ℕ) (j k : SinkState) : Type 0 where
  pub written : Appends j.held k.held text
  pub sound : k.faults ≡ j.faults

abbrev pub Tells : {T : Type 0} → Result T NodeStatus → List ℕ → SinkState → SinkState → Type 0
Tells (Ok done) line j k = HasPut line j k
Tells (Err status.WriteFault) line j k = PutsFront line j.held k.held j.faults k.faults
Tells (Err status.NoMemory) line j k = HasPut [] j k
Tells (Err other) line j k = ⊥

-- ---- all of it

pub record Acts (o : Order) (s : Service) (l m : LinkState) (Told : Deed → Type 0) : Type 0 where
  pub deed : Deed
  pub acted : HasActed o deed s l m
  pub told : Told deed

abbrev pub Goes : {T : Type 0} → Result T NodeStatus → Order → Service → Service → LinkState → LinkState → SinkState → SinkState → Type 0
Goes (Ok done) o s now l m j k = Acts o s l m (λ deed. (now ≡ (does s deed).service) × HasPut (outcome_line (does s deed).came_to) j k)
Goes (Err status.WriteFault) o s now l m j k = Acts o s l m (λ deed. PutsFront (outcome_line (does s deed).came_to) j.held k.held j.faults k.faults)
Goes (Err status.NoMemory) o s now l m j k = Acts o s l m (λ deed. HasPut [] j k)
Goes (Err status.LinkFault) o s now l m j k = (HasNotTaken o l m ⊎ HasNotSent o s l m) × (m.faults ≡ one_more l.faults) × HasPut [] j k
Goes (Err other) o s now l m j k = ⊥
