-- The schedule that is made of a number: each event by two draws of a linear congruential generator (the one of Knuth's MMIX).
use Rattle.std.specs.Prelude.{ℕ, zero, suc, ◌+◌, ◌-◌, ◌*◌, ◌/◌, ◌%◌, ◌^◌, ◌==◌, nat_lt, if◌then◌else◌, List, [], ◌∷◌}
use Rattle.std.specs.Int.{w16, to_be_bytes}
use Rattle.hm_base.specs.declared.node.GroupKind.{GroupKind}
use Rattle.hm_base.specs.declared.node.GroupKind.TheVariants as kind
use Rattle.hm_schedule.specs.Limits.{max_events}
use Rattle.hm_schedule.specs.declared.event.Event.{Event}
use Rattle.hm_schedule.specs.declared.event.Event.TheVariants as event
use Rattle.hm_schedule.specs.declared.generator.Choice.{Choice}
use Rattle.hm_schedule.specs.declared.generator.Choice.TheVariants as choice
use Rattle.hm_schedule.specs.declared.line.Line.{Line}
use Rattle.hm_schedule.specs.declared.line.Line.TheVariants as line

-- ---- draws

abbrev pub multiplier : ℕ
multiplier = 6364136223846793005

abbrev pub increment : ℕ
increment = 1442695040888963407

abbrev pub next_state : ℕ → ℕ
next_state state = (state * multiplier + increment) % 2 ^ 64

-- the upper 31 bits of a state
abbrev pub draw_of : ℕ → ℕ
draw_of state = state / 2 ^ 33

-- ---- events

-- the draws fall into so many equal parts
abbrev pub parts : ℕ
parts = 64

-- how many of them stand for each kind of event
abbrev pub shares : List (Choice × ℕ)
shares = (choice.Write, 3) ∷ (choice.Read, 3) ∷ (choice.Resend, 1) ∷ (choice.Tick, 1) ∷ (choice.Drop, 1) ∷ (choice.Deliver, 1) ∷ (choice.Timeout, 1) ∷ (choice.Next, 53) ∷ []

-- whose share a part is
abbrev pub shared_at : List (Choice × ℕ) → ℕ → Choice
shared_at [] part = choice.Next
shared_at (share ∷ rest) part = if nat_lt part share.1 then share.0 else shared_at rest (part - share.1)

abbrev pub choice_at : ℕ → Choice
choice_at part = shared_at shares part

abbrev pub clients : ℕ
clients = 8

abbrev pub objects : ℕ
objects = 32

abbrev pub client_in : ℕ → ℕ
client_in amount = amount % clients

abbrev pub object_in : ℕ → ℕ
object_in amount = (amount / clients) % objects

-- the switch that all requests go to
abbrev pub first_switch : ℕ
first_switch = 1

-- one in so many choices of a timeout is one
abbrev pub timeout_odds : ℕ
timeout_odds = 16

-- a replica times out in Viewstamped Replication alone
abbrev pub timeout_made : GroupKind → ℕ → ℕ → Event
timeout_made kind.Vr size amount = if amount % timeout_odds == 0 then event.Timeout ((amount / timeout_odds) % size) else event.Next
timeout_made other size amount = event.Next

-- the event of that number: each write writes its number
abbrev pub event_made : Choice → GroupKind → ℕ → ℕ → ℕ → Event
event_made choice.Write kind size number amount = event.Write (client_in amount) (object_in amount) (to_be_bytes w16 number) first_switch
event_made choice.Read kind size number amount = event.Read (client_in amount) (object_in amount) first_switch
event_made choice.Resend kind size number amount = event.Resend (client_in amount) first_switch
event_made choice.Tick kind size number amount = event.Tick (amount % size)
event_made choice.Drop kind size number amount = event.Drop
event_made choice.Deliver kind size number amount = event.Deliver (amount % number + 1)
event_made choice.Timeout kind size number amount = timeout_made kind size amount
event_made choice.Next kind size number amount = event.Next

-- the first draw chooses the kind, the second the fields
abbrev pub event_from : GroupKind → ℕ → ℕ → ℕ → Event
event_from kind size number state = event_made (choice_at (draw_of (next_state state) % parts)) kind size number (draw_of (next_state (next_state state)))

-- so many events, from that number on
unfoldable pub events_from : GroupKind → ℕ → ℕ → ℕ → ℕ → List Line
events_from kind size number state zero = []
events_from kind size number state (suc n) = line.Event (event_from kind size number state) ∷ events_from kind size (number + 1) (next_state (next_state state)) n

-- ---- the schedule

unfoldable pub generated : ℕ → GroupKind → ℕ → List Line
generated number kind size = line.Group kind size ∷ events_from kind size 1 number max_events
