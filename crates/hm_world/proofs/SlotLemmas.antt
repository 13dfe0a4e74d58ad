-- The slots of the switches after an event, and which writes find them full.
use Rattle.std.proofs.Common.{◌≡◌, ℕ, ◌+◌, ◌-◌, Bool, List, [], ◌∷◌, ◌++◌, length, Option, Some, refl, sym, ap, ◌∙◌, subst, arith, length-append}
use Rattle.std.specs.Prelude.{slice_set}
use Rattle.hm_base.specs.Slots.{Slots}
use Rattle.hm_base.specs.declared.node.Node.{Node}
use Rattle.hm_packet.specs.declared.body.Body.{Body}
use Rattle.hm_packet.specs.declared.body.Body.TheVariants as body
use Rattle.hm_packet.specs.declared.outcome.Outcome.{Outcome}
use Rattle.hm_packet.specs.declared.outcome.Outcome.TheVariants as outcome
use Rattle.hm_packet.specs.declared.turn.Turn.{Turn}
use Rattle.hm_packet.specs.declared.turn.Turn.TheVariants as turn
use Rattle.hm_packet.specs.Messages.{Message}
use Rattle.hm_parts.specs.Seen.{Posted}
use Rattle.hm_rules.specs.Switch.{AbstractSwitch, switch_step}
use Rattle.hm_rules.specs.Events.{Setup}
use Rattle.hm_rules.specs.World.{World, Happened, switch_at}
use Rattle.hm_rules.specs.Deliveries.{to_switch, at_switch, turned, with_switch}
use Rattle.hm_rules.specs.Runs.{slots_after, slotted_after, finds_full_in}
use Rattle.hm_refusal_laws.specs.Slotting.{slot_happens}
use Rattle.hm_schedule.specs.declared.event.Event.{Event}
use Rattle.hm_world.specs.declared.state.State.{State}
use Rattle.hm_schedule.specs.Setups.{event_of}
use Rattle.hm_world.specs.Running.{Running, switches_in, slots_in, full_in, IsTurn}
use Rattle.hm_world.specs.StateFields.{world_of, slotted_of, arrives, Keeps, Quietly, Ends}
use Rattle.hm_world.proofs.SlotsAfter.{as_many, slots_stay}

-- ---- an event that no switch has to do with

pub follow_quietly : (old new : State) → new.switches ≡ old.switches → slotted_of new ≡ slotted_after (slotted_of old) (world_of new)
follow_quietly old new same =
    let r : Running = old.switches in
    let setup : Setup = (world_of new).setup in
    ap (λ (l : List Slots). record { world = world_of new; slots = l })
    (ap slots_in same ∙ sym (slots_stay setup (slots_in r) (switches_in r) (as_many r)) ∙ ap (λ (x : Running). slots_after setup (slots_in r) (switches_in r) (switches_in x)) (sym same))

pub ends_quietly : (old new : State) (o : Outcome) (h : Happened) → Quietly old new o h → Ends old new o h
ends_quietly old new o h q = record { world = follow_quietly old new q.switches ∙ ap (slotted_after (slotted_of old)) q.world; outcome = q.outcome; keeps = q.keeps }

-- at the event itself
pub take_quietly : (old new : State) (o : Outcome) (e known : Event) → e ≡ known → Quietly old new o (slot_happens (slotted_of old) (event_of known)) → Ends old new o (slot_happens (slotted_of old) (event_of e))
take_quietly old new o e known is q = subst (λ (v : Event). Ends old new o (slot_happens (slotted_of old) (event_of v))) (sym is) (ends_quietly old new o (slot_happens (slotted_of old) (event_of known)) q)

-- at the arrival of a packet
pub deliver_quietly : (old new : State) (o : Outcome) (m : Message) (d known : Node) → d ≡ known → Quietly old new o (arrives old m known) → Ends old new o (arrives old m d)
deliver_quietly old new o m d known is q = subst (λ (n : Node). Ends old new o (arrives old m n)) (sym is) (ends_quietly old new o (arrives old m known) q)

-- ---- a switch's turn

full_is : (old : State) (n : ℕ) (b : Body) → finds_full_in (slotted_of old) n b ≡ full_in old.switches n b
full_is old n (body.Write write) = refl
full_is old n other = refl

-- what a turn sends
abbrev pub posted_by : Turn → Posted → Posted
posted_by (turn.Sent p) net = record net { packets = net.packets ++ p ∷ [] }
posted_by other net = net

abbrev pub told_by : Turn → ℕ → Outcome
told_by (turn.Sent p) n = outcome.Ok (n + 1) 1
told_by turn.Noted n = outcome.Ok (n + 1) 0
told_by (turn.Ignored reason) n = outcome.Ignored reason
told_by turn.Full n = outcome.Full
told_by turn.Spent n = outcome.Spent

abbrev pub turned_to : State → Running → Turn → State
turned_to old r made = record old { switches = r; net = posted_by made old.net }

turned_world : (old : State) (r : Running) (n : ℕ) (s : AbstractSwitch) (made : Turn) → switches_in r ≡ slice_set (switches_in old.switches) (n - 1) s → world_of (turned_to old r made) ≡ (turned (world_of old) (with_switch (world_of old) n s) made).world
turned_world old r n s (turn.Sent p) same = ap (λ (l : List AbstractSwitch). record (world_of old) { switches = l; net = old.net.packets ++ p ∷ [] }) same
turned_world old r n s turn.Noted same = ap (λ (l : List AbstractSwitch). record (world_of old) { switches = l }) same
turned_world old r n s (turn.Ignored reason) same = ap (λ (l : List AbstractSwitch). record (world_of old) { switches = l }) same
turned_world old r n s turn.Full same = ap (λ (l : List AbstractSwitch). record (world_of old) { switches = l }) same
turned_world old r n s turn.Spent same = ap (λ (l : List AbstractSwitch). record (world_of old) { switches = l }) same

turned_outcome : (w : World) (n : ℕ) (s : AbstractSwitch) (made : Turn) → told_by made (length w.net) ≡ (turned w (with_switch w n s) made).outcome
turned_outcome w n s (turn.Sent p) =
    let one : 1 ≡ length (w.net ++ p ∷ []) - length w.net = omega (arith, length-append w.net (p ∷ [])) in ap (λ (k : ℕ). outcome.Ok (length w.net + 1) k) one
turned_outcome w n s turn.Noted =
    let none : 0 ≡ length w.net - length w.net = omega arith in ap (λ (k : ℕ). outcome.Ok (length w.net + 1) k) none
turned_outcome w n s (turn.Ignored reason) = refl
turned_outcome w n s turn.Full = refl
turned_outcome w n s turn.Spent = refl

turned_keeps : (old : State) (r : Running) (made : Turn) → r.steps ≡ old.switches.steps + 1 → Keeps old (turned_to old r made)
turned_keeps old r (turn.Sent p) steps = record { setup = refl; events = refl; net = refl; steps = omega (arith, steps); clients = omega arith; service = refl; group = refl }
turned_keeps old r turn.Noted steps = record { setup = refl; events = refl; net = refl; steps = omega (arith, steps); clients = omega arith; service = refl; group = refl }
turned_keeps old r (turn.Ignored reason) steps = record { setup = refl; events = refl; net = refl; steps = omega (arith, steps); clients = omega arith; service = refl; group = refl }
turned_keeps old r turn.Full steps = record { setup = refl; events = refl; net = refl; steps = omega (arith, steps); clients = omega arith; service = refl; group = refl }
turned_keeps old r turn.Spent steps = record { setup = refl; events = refl; net = refl; steps = omega (arith, steps); clients = omega arith; service = refl; group = refl }

pub turns : (old : State) (r : Running) (made : Turn) (n : ℕ) (m : Message) (s : AbstractSwitch) → switch_at (world_of old) n ≡ Some s → IsTurn old.switches r n made s m
    → Ends old (turned_to old r made) (told_by made (length old.net.packets)) (to_switch (finds_full_in (slotted_of old) n m.body) (world_of old) m n (switch_at (world_of old) n))
turns old r made n m s here t =
    let w : World = world_of old in
    let new : State = turned_to old r made in
    let after : AbstractSwitch = (switch_step (full_in old.switches n m.body) s m).switch in
    let h : Happened = turned w (with_switch w n after) made in
    let ends : Ends old new (told_by made (length w.net)) h = record {
      world = ap (λ (l : List Slots). record { world = world_of new; slots = l }) (turned_slots made) ∙ ap (slotted_after (slotted_of old)) (turned_world old r n after made t.switches);
      outcome = turned_outcome w n after made;
      keeps = turned_keeps old r made t.steps;
    } in
    let is : h ≡ to_switch (finds_full_in (slotted_of old) n m.body) w m n (switch_at w n) =
    ap (λ (u : Turn). turned w (with_switch w n after) u) t.turn
    ∙ ap (λ (b : Bool). at_switch w n (switch_step b s m)) (sym (full_is old n m.body))
    ∙ ap (λ (o : Option AbstractSwitch). to_switch (finds_full_in (slotted_of old) n m.body) w m n o) (sym here) in
    subst (λ (x : Happened). Ends old new (told_by made (length w.net)) x) is ends
  where
    turned_slots : (u : Turn) → slots_in (turned_to old r u).switches ≡ slots_after (world_of (turned_to old r u)).setup (slots_in old.switches) (switches_in old.switches) (switches_in r)
    turned_slots u = t.slots (world_of (turned_to old r u)).setup

-- the turn as the code finds it, with the count of packets that it took before
pub turn_ends : (old : State) (r : Running) (made known : Turn) (k n : ℕ) (m : Message) (s : AbstractSwitch) → made ≡ known → k ≡ length old.net.packets → switch_at (world_of old) n ≡ Some s → IsTurn old.switches r n made s m
    → Ends old (turned_to old r known) (told_by known k) (to_switch (finds_full_in (slotted_of old) n m.body) (world_of old) m n (switch_at (world_of old) n))
turn_ends old r made known k n m s is count here t =
    let h : Happened = to_switch (finds_full_in (slotted_of old) n m.body) (world_of old) m n (switch_at (world_of old) n) in
    subst (λ (u : Turn). Ends old (turned_to old r u) (told_by u k) h) is (subst (λ (x : ℕ). Ends old (turned_to old r made) (told_by made x) h) (sym count) (turns old r made n m s here t))
