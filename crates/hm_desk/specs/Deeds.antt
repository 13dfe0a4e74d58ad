-- What orders come to at the configuration service: what is done, what is sent, and the line that tells it.
use Rattle.std.specs.Prelude.{◌≡◌, ℕ, List, [], ◌∷◌, ◌++◌, map, codes, decimal, Option, Some, None}
use Rattle.hm_base.specs.declared.node.Node.TheVariants as node
use Rattle.hm_frame.specs.declared.datagram.Item.{Item}
use Rattle.hm_packet.specs.Messages.{Message}
use Rattle.hm_packet.specs.declared.acted.Did.{Did}
use Rattle.hm_packet.specs.declared.acted.Did.TheVariants as did
use Rattle.hm_packet.specs.declared.body.Body.TheVariants as body
use Rattle.hm_reconfig.specs.Groups.{remove_fault, start_fault}
use Rattle.hm_reconfig.specs.declared.fault.RemoveFault.{RemoveFault}
use Rattle.hm_reconfig.specs.declared.fault.RemoveFault.TheVariants as remove
use Rattle.hm_reconfig.specs.declared.fault.StartFault.{StartFault}
use Rattle.hm_reconfig.specs.declared.fault.StartFault.TheVariants as start
use Rattle.hm_base.specs.Spellings.{why_text}
use Rattle.hm_rules.specs.Service.{Service, from_service, service_route, service_step, removes, retires, starts}
use Rattle.hm_schedule.specs.LineTexts.{ended}
use Rattle.hm_worker.specs.Heard.{Heard}
use Rattle.hm_worker.specs.Posts.{IsHeard}
use Rattle.hm_operator.specs.declared.order.Order.{Order}
use Rattle.hm_operator.specs.declared.order.Order.TheVariants as order
use Rattle.hm_desk.specs.declared.outcome.Outcome.{Outcome}
use Rattle.hm_desk.specs.declared.outcome.Outcome.TheVariants as outcome

-- ---- orders that are carried out

-- an order as it is carried out: one to take has what was heard, or finds that the link has ended
pub data Deed : Type 0 where
  Removes : (replica : ℕ) → Deed
  Retires : Deed
  Hears : (heard : Heard) → Deed
  FindsEnd : Deed
  Starts : (live : List ℕ) → Deed

abbrev pub order_of : Deed → Order
order_of (Deed.Removes replica) = order.Remove replica
order_of Deed.Retires = order.Retire
order_of (Deed.Hears heard) = order.Take
order_of Deed.FindsEnd = order.Take
order_of (Deed.Starts live) = order.Start live

abbrev pub orders_of : List Deed → List Order
orders_of deeds = map order_of deeds

-- each that hears takes the next item, and the link has ended just where there is none
abbrev pub TakesItems : List Deed → List Item → List Item → Type 0
TakesItems [] items left = left ≡ items
TakesItems (Deed.Hears heard ∷ deeds) [] left = ⊥
TakesItems (Deed.Hears heard ∷ deeds) (item ∷ items) left = IsHeard item heard × TakesItems deeds items left
TakesItems (Deed.FindsEnd ∷ deeds) items left = (items ≡ []) × TakesItems deeds items left
TakesItems (Deed.Removes replica ∷ deeds) items left = TakesItems deeds items left
TakesItems (Deed.Retires ∷ deeds) items left = TakesItems deeds items left
TakesItems (Deed.Starts live ∷ deeds) items left = TakesItems deeds items left

-- what deeds take of what is to come over a link, where that is told
abbrev pub Takes : List Deed → Option (List Item) → Option (List Item) → Type 0
Takes deeds None came = Unit {0}
Takes deeds (Some items) None = ⊥
Takes deeds (Some items) (Some left) = TakesItems deeds items left

-- ---- what they come to

-- the service after a deed, what it sends, and what the deed came to
pub record Dealt : Type 0 where
  pub service : Service
  pub outs : List Message
  pub came_to : Outcome

-- nothing changes, and nothing is sent
abbrev pub unchanged : Service → Outcome → Dealt
unchanged s o = record { service = s; outs = []; came_to = o }

-- a member is removed, if there is no reason against it
abbrev pub removal : Service → ℕ → Option RemoveFault → Dealt
removal s replica None = record { service = (removes s replica).service; outs = (removes s replica).outs; came_to = outcome.Removed }
removal s replica (Some fault) = unchanged s (outcome.NotRemoved fault)

-- the newest switch is told where to send
abbrev pub route_to_newest : Service → Message
route_to_newest s = from_service (node.Switch s.newest) (body.Route (service_route s))

-- the next switch starts, if there is no reason against it
abbrev pub starting : Service → Option StartFault → Dealt
starting s None = record { service = starts s; outs = route_to_newest (starts s) ∷ []; came_to = outcome.Started (starts s).newest }
starting s (Some fault) = unchanged s (outcome.NotStarted fault)

-- what the service says of a packet
abbrev pub noted : Did → Outcome
noted (did.Ignored why) = outcome.Ignored why
noted other = outcome.Noted

abbrev pub hearing : Service → Heard → Dealt
hearing s (Heard.Packet m) = record { service = (service_step s m).service; outs = []; came_to = noted (service_step s m).did }
hearing s Heard.Malformed = unchanged s outcome.Malformed
hearing s Heard.Quiet = unchanged s outcome.Quiet

abbrev pub does : Service → Deed → Dealt
does s (Deed.Removes replica) = removal s replica (remove_fault s replica)
does s Deed.Retires = record { service = (retires s).service; outs = (retires s).outs; came_to = outcome.Retired }
does s (Deed.Hears heard) = hearing s heard
does s Deed.FindsEnd = unchanged s outcome.Ended
does s (Deed.Starts live) = starting s (start_fault s live)

-- ---- the lines

abbrev pub outcome_text : Outcome → List ℕ
outcome_text outcome.Removed = codes "remove ok"
outcome_text (outcome.NotRemoved remove.Fixed) = codes "remove Fixed"
outcome_text (outcome.NotRemoved remove.NotMember) = codes "remove NotMember"
outcome_text (outcome.NotRemoved remove.Last) = codes "remove Last"
outcome_text outcome.Retired = codes "retire ok"
outcome_text outcome.Noted = codes "take ok"
outcome_text (outcome.Ignored why) = codes "take ignored " ++ why_text why
outcome_text outcome.Quiet = codes "take quiet"
outcome_text outcome.Malformed = codes "take malformed"
outcome_text outcome.Ended = codes "take ended"
outcome_text (outcome.Started number) = codes "start " ++ decimal number
outcome_text (outcome.NotStarted start.NotRetired) = codes "start NotRetired"
outcome_text (outcome.NotStarted (start.NotRefused replica)) = codes "start NotRefused " ++ decimal replica
outcome_text (outcome.NotStarted start.NoNumber) = codes "start NoNumber"

abbrev pub outcome_line : Outcome → List ℕ
outcome_line o = ended (outcome_text o)

-- ---- one after the other

-- the service afterwards
abbrev pub after : Service → List Deed → Service
after s [] = s
after s (deed ∷ deeds) = after (does s deed).service deeds

-- all that is sent
abbrev pub outs_of : Service → List Deed → List Message
outs_of s [] = []
outs_of s (deed ∷ deeds) = (does s deed).outs ++ outs_of (does s deed).service deeds

-- the line of each
abbrev pub lines_of : Service → List Deed → List ℕ
lines_of s [] = []
lines_of s (deed ∷ deeds) = outcome_line (does s deed).came_to ++ lines_of (does s deed).service deeds
