-- How the configuration service's daemon ends, and what it read, did, sent and put by then.
use Rattle.std.specs.Prelude.{◌≡◌, ℕ, ◌+◌, ◌<◌, ◌≤◌, ◌⊎◌, List, [], ◌∷◌, ◌++◌, length, Some}
use Rattle.std.specs.Io.KnownBytes.{Keeps, IsAtEnd}
use Rattle.hm_base.specs.Lists.{IsPrefix}
use Rattle.hm_frame.specs.Links as links
use Rattle.hm_outside.specs.Faults.{one_more}
use Rattle.hm_packet.specs.Messages.{Message}
use Rattle.hm_rules.specs.Service.{Service, served}
use Rattle.hm_schedule.specs.LineTexts.{IsLine, ended}
use Rattle.hm_schedule.specs.Lines.{IsOverlong, max_line_len}
use Rattle.hm_schedule.specs.declared.line.LineReason.{LineReason}
use Rattle.hm_schedule.specs.declared.line.LineReason.TheVariants as reason
use Rattle.hm_daemon.specs.declared.status.NodeStatus.{NodeStatus}
use Rattle.hm_daemon.specs.declared.status.NodeStatus.TheVariants as status
use Rattle.hm_daemon.specs.declared.words.ConfigWords.{ConfigWords}
use Rattle.hm_desk.specs.Deeds.{Deed, does, after, outs_of, lines_of, outcome_line, orders_of}
use Rattle.hm_desk.specs.Devices.{Devices, HasDone, IsSound}
use Rattle.hm_operator.specs.Orders.{IsFirstReason, IsLawful, order_text, orders_text}
use Rattle.hm_operator.specs.declared.order.Order.{Order}
use Rattle.hm_operator.specs.declared.order.Order.TheVariants as order

-- ---- lines that are no orders

-- the input ends within a line
pub record EndsWithin (bytes : List ℕ) : Type 0 where
  pub some : 0 < length bytes
  pub line : IsLine bytes
  pub short : length bytes ≤ max_line_len

-- a line comes that is no order
pub record HasBadLine (bytes : List ℕ) (r : LineReason) : Type 0 where
  pub line : List ℕ
  pub more : List ℕ
  pub parts : bytes ≡ ended line ++ more
  pub is_line : IsLine line
  pub short : length line ≤ max_line_len
  pub none : (o : Order) → IsLawful o → line ≡ order_text o → ⊥
  pub first : IsFirstReason line r

-- why bytes don't begin with an order
abbrev pub IsRefused : List ℕ → LineReason → Type 0
IsRefused bytes r = ((r ≡ reason.Long) × IsOverlong bytes) ⊎ (((r ≡ reason.End) × EndsWithin bytes) ⊎ HasBadLine bytes r)

-- the bytes are these orders, and then bytes that are refused
pub record BreaksOff (orders : List Order) (r : LineReason) (bytes : List ℕ) : Type 0 where
  pub rest : List ℕ
  pub parts : bytes ≡ orders_text orders ++ rest
  pub refused : IsRefused rest r

-- ---- how it ends

-- each order was carried out, what it sends was sent, and its line was put; these bytes were read ahead of them
abbrev pub HasServed : Service → List Deed → List ℕ → Devices → Devices → Type 0
HasServed s deeds ahead old new = HasDone (orders_of deeds) ahead deeds (outs_of s deeds) (lines_of s deeds) old new

-- the input is these orders
pub record EndsDone (s : Service) (turns : ℕ) (old new : Devices) : Type 0 where
  pub deeds : List Deed
  pub few : length deeds ≤ turns
  pub done : HasServed s deeds [] old new
  pub end : IsAtEnd new.source.left
  pub sound : IsSound old new

-- a byte comes behind as many orders as may be
pub record EndsSpent (s : Service) (turns : ℕ) (old new : Devices) : Type 0 where
  pub deeds : List Deed
  pub ahead : List ℕ
  pub all : length deeds ≡ turns
  pub done : HasServed s deeds ahead old new
  pub some : 0 < length ahead
  pub sound : IsSound old new

-- a line comes that is no order
pub record EndsBadly (s : Service) (turns line : ℕ) (r : LineReason) (old new : Devices) : Type 0 where
  pub deeds : List Deed
  pub ahead : List ℕ
  pub few : length deeds < turns
  pub line_is : line ≡ length deeds + 1
  pub done : HasServed s deeds ahead old new
  pub breaks : (bytes : List ℕ) → old.source.left ≡ Some bytes → BreaksOff (orders_of deeds) r bytes
  pub sound : IsSound old new

-- the source failed within a line
pub record EndsUnread (s : Service) (turns : ℕ) (old new : Devices) : Type 0 where
  pub deeds : List Deed
  pub part : List ℕ
  pub few : length deeds ≤ turns
  pub done : HasServed s deeds part old new
  pub within : IsLine part
  pub failed : new.source.faults ≡ one_more old.source.faults
  pub link : new.link.faults ≡ old.link.faults
  pub sink : new.sink.faults ≡ old.sink.faults

-- the last order was to take, and nothing was taken
pub record EndsUntaken (s : Service) (turns : ℕ) (old new : Devices) : Type 0 where
  pub deeds : List Deed
  pub ahead : List ℕ
  pub few : length deeds < turns
  pub done : HasDone (orders_of deeds ++ order.Take ∷ []) ahead deeds (outs_of s deeds) (lines_of s deeds) old new

-- of what the last order sends a front was sent, and its line wasn't put
pub record EndsUnsent (s : Service) (turns : ℕ) (old new : Devices) : Type 0 where
  pub deeds : List Deed
  pub last : Deed
  pub ahead : List ℕ
  pub few : length deeds < turns
  pub front : List Message
  pub is_front : IsPrefix front (does (after s deeds) last).outs
  pub done : HasDone (orders_of (deeds ++ last ∷ [])) ahead (deeds ++ last ∷ []) (outs_of s deeds ++ front) (lines_of s deeds) old new

-- the link failed
pub record EndsUnlinked (s : Service) (turns : ℕ) (old new : Devices) : Type 0 where
  pub by_then : EndsUntaken s turns old new ⊎ EndsUnsent s turns old new
  pub source : new.source.faults ≡ old.source.faults
  pub failed : new.link.faults ≡ one_more old.link.faults
  pub sink : new.sink.faults ≡ old.sink.faults

-- of the last order's line a front was put
pub record EndsUnput (s : Service) (turns : ℕ) (old new : Devices) : Type 0 where
  pub deeds : List Deed
  pub last : Deed
  pub ahead : List ℕ
  pub few : length deeds < turns
  pub front : List ℕ
  pub is_front : IsPrefix front (outcome_line (does (after s deeds) last).came_to)
  pub done : HasDone (orders_of (deeds ++ last ∷ [])) ahead (deeds ++ last ∷ []) (outs_of s (deeds ++ last ∷ [])) (lines_of s deeds ++ front) old new
  pub source : new.source.faults ≡ old.source.faults
  pub link : new.link.faults ≡ old.link.faults
  pub failed : new.sink.faults ≡ one_more old.sink.faults

-- memory for the last order's line was wanting
pub record EndsUntold (s : Service) (turns : ℕ) (old new : Devices) : Type 0 where
  pub deeds : List Deed
  pub last : Deed
  pub ahead : List ℕ
  pub few : length deeds < turns
  pub done : HasDone (orders_of (deeds ++ last ∷ [])) ahead (deeds ++ last ∷ []) (outs_of s (deeds ++ last ∷ [])) (lines_of s deeds) old new
  pub sound : IsSound old new

-- nothing was read, taken, sent or put
pub record IsIdle (old new : Devices) : Type 0 where
  pub unread : Keeps old.source.left new.source.left
  pub untaken : links.Keeps old.link.coming new.link.coming
  pub unsent : links.Keeps old.link.sent new.link.sent
  pub unput : Keeps old.sink.held new.sink.held
  pub sound : IsSound old new

-- how a service that begins so ends, where it may read so many orders
abbrev pub Ends : NodeStatus → Service → ℕ → Devices → Devices → Type 0
Ends status.Done s turns old new = EndsDone s turns old new
Ends status.TurnsSpent s turns old new = EndsSpent s turns old new
Ends (status.BadLine line r) s turns old new = EndsBadly s turns line r old new
Ends status.ReadFault s turns old new = EndsUnread s turns old new
Ends status.LinkFault s turns old new = EndsUnlinked s turns old new
Ends status.WriteFault s turns old new = EndsUnput s turns old new
Ends status.NoMemory s turns old new = IsIdle old new ⊎ EndsUntold s turns old new
Ends other s turns old new = ⊥

-- the service of these words
abbrev pub first_service : ConfigWords → Service
first_service w = served w.kind w.size
