-- The run of a schedule, and which writes of it find the dirty table full. The run's only free choice is at which events a switch
-- refuses a write.
use Rattle.std.specs.Prelude.{ℕ, ◌+◌, ◌-◌, Bool, true, false, if◌then◌else◌, List, [], ◌∷◌, length, drop, slice_get, Option, Some, None}
use Rattle.hm_base.specs.Slots.{Slots, no_slots, slots_raised, is_full, put}
use Rattle.hm_packet.specs.declared.body.Body.{Body}
use Rattle.hm_packet.specs.declared.body.Body.TheVariants as body
use Rattle.hm_packet.specs.declared.outcome.Outcome.{Outcome}
use Rattle.hm_packet.specs.declared.outcome.Outcome.TheVariants as outcome
use Rattle.hm_packet.specs.Messages.{Message}
use Rattle.hm_rules.specs.Senders.{number}
use Rattle.hm_rules.specs.Numbers.{stands_in}
use Rattle.hm_rules.specs.Switch.{AbstractSwitch}
use Rattle.hm_rules.specs.Events.{Setup, Event}
use Rattle.hm_rules.specs.World.{World, Happened, opens, sent_at, switch_at}
use Rattle.hm_rules.specs.Happens.{happens}

-- events are numbered from 1; the switch refuses at the numbers listed
abbrev pub run_from : ℕ → World → List Event → List ℕ → World
run_from k w [] refused = w
run_from k w (e ∷ es) refused = run_from (k + 1) (happens w e (stands_in k refused)).world es refused

abbrev pub run : World → List Event → List ℕ → World
run w es refused = run_from 1 w es refused

-- the events with how each ended, in order
abbrev pub outcomes_from : ℕ → World → List Event → List ℕ → List Outcome
outcomes_from k w [] refused = []
outcomes_from k w (e ∷ es) refused =
    let h : Happened = happens w e (stands_in k refused) in h.outcome ∷ outcomes_from (k + 1) h.world es refused

abbrev pub outcomes : World → List Event → List ℕ → List Outcome
outcomes w es refused = outcomes_from 1 w es refused

-- ---- the run that refuses just where the slots are full

-- a world with the slots of each started switch
pub record Slotted : Type 0 where
  pub world : World
  pub slots : List Slots

abbrev pub slotted : World → Slotted
slotted w = record { world = w; slots = no_slots w.setup.stages w.setup.bits ∷ [] }

-- the packet that an event delivers, if it does
abbrev pub delivered : World → Event → Option Message
delivered w (Event.Deliver packet) = sent_at w packet
delivered w Event.Next = sent_at w (w.cursor + 1)
delivered w (Event.Raw spelled) = spelled
delivered w other = None

abbrev pub is_full_for : ℕ → Option Slots → Option AbstractSwitch → Bool
is_full_for object (Some slots) (Some s) = is_full slots s.point object
is_full_for object slots s = false

abbrev pub finds_full_in : Slotted → ℕ → Body → Bool
finds_full_in s number (body.Write write) = is_full_for write.object (slice_get s.slots (number - 1)) (switch_at s.world number)
finds_full_in s number other = false

abbrev pub finds_full_with : Slotted → Option Message → Bool
finds_full_with s None = false
finds_full_with s (Some m) = finds_full_in s (number m.dst) m.body

-- the event brings a write to a switch whose slots are full for its object
abbrev pub finds_full : Slotted → Event → Bool
finds_full s e = finds_full_with s (delivered s.world e)

abbrev pub put_all : Slots → ℕ → ℕ → List ℕ → Slots
put_all t point number [] = t
put_all t point number (object ∷ objects) = put_all (put t point object number) point (number + 1) objects

-- Each write that a switch has numbered since goes into its slots, and what is at or below its point then is none. A switch that
-- was started since has no slots.
abbrev pub slots_after : Setup → List Slots → List AbstractSwitch → List AbstractSwitch → List Slots
slots_after setup ts olds [] = []
slots_after setup [] olds (new ∷ news) = no_slots setup.stages setup.bits ∷ slots_after setup [] olds news
slots_after setup (t ∷ ts) [] (new ∷ news) = no_slots setup.stages setup.bits ∷ slots_after setup [] [] news
slots_after setup (t ∷ ts) (old ∷ olds) (new ∷ news) =
    slots_raised old.point new.point (put_all t old.point (length old.numbered + 1) (drop (length old.numbered) new.numbered)) ∷ slots_after setup ts olds news

abbrev pub slotted_after : Slotted → World → Slotted
slotted_after s w = record { world = w; slots = slots_after w.setup s.slots s.world.switches w.switches }

abbrev pub is_full_outcome : Outcome → Bool
is_full_outcome outcome.Full = true
is_full_outcome other = false

abbrev pub full_from : ℕ → Slotted → List Event → List ℕ
full_from k s [] = []
full_from k s (e ∷ es) =
    let h : Happened = happens s.world e (finds_full s e) in
    let later : List ℕ = full_from (k + 1) (slotted_after s h.world) es in
    if is_full_outcome h.outcome then k ∷ later else later

-- the numbers of the events at which a write finds the slots full, in the run that refuses at just these
abbrev pub full_events : Setup → List Event → List ℕ
full_events setup es = full_from 1 (slotted (opens setup)) es
