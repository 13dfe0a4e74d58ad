-- What holds of a state in an event.
use Rattle.std.proofs.Common.{◌≡◌, ℕ, ◌+◌, ◌-◌, ◌<◌, Bool, true, false, Option, Some, None, refl, sym, ap, ◌∙◌, subst, arith}
use Rattle.std.specs.Prelude.{slice_get, is_some, ◌==◌, if◌then◌else◌}
use Rattle.std.proofs.lemmas.Bool.Decides.{nat_tests}
use Rattle.std.proofs.lemmas.Bool.{cond_both, false≢true}
use Rattle.std.proofs.lemmas.Option.{none-some}
use Rattle.hm_base.specs.Lists.{IsIn}
use Rattle.hm_base.proofs.ListLaws.{at_in}
use Rattle.hm_base.specs.declared.why.Why.TheVariants as why
use Rattle.hm_core_laws.specs.Changes.{Origin, IsStep}
use Rattle.hm_packet.specs.declared.body.Body.{Body}
use Rattle.hm_packet.specs.declared.body.Body.TheVariants as body
use Rattle.hm_packet.specs.declared.outcome.Bar.TheVariants as bar
use Rattle.hm_packet.specs.declared.outcome.Outcome.{Outcome}
use Rattle.hm_packet.specs.declared.outcome.Outcome.TheVariants as outcome
use Rattle.hm_packet.specs.Messages.{Message}
use Rattle.hm_parts.specs.Seen.{Posted}
use Rattle.hm_refusal_laws.specs.Slotting.{slot_happens}
use Rattle.hm_rules.specs.Replica.{Replica}
use Rattle.hm_rules.specs.ReplicaSteps.{Stepped}
use Rattle.hm_rules.specs.Runs.{finds_full_in, finds_full_with}
use Rattle.hm_rules.specs.Senders.{number}
use Rattle.hm_rules.specs.Switch.{AbstractSwitch}
use Rattle.hm_rules.specs.World.{World, Happened, sent_at, switch_at}
use Rattle.hm_rules.specs.Deliveries.{to_switch, to_node, deliver}
use Rattle.hm_rules.specs.Happens.{passed, next}
use Rattle.hm_schedule.specs.declared.event.Event.{Event}
use Rattle.hm_schedule.specs.declared.event.Event.TheVariants as event
use Rattle.hm_schedule.specs.Setups.{event_of}
use Rattle.hm_world.specs.declared.state.State.{State}
use Rattle.hm_world.specs.Setups.{setup_fault}
use Rattle.hm_world.specs.StateFields.{world_of, slotted_of, arrives, IsKept, IsBegun, Keeps, Quietly, Ends}
use Rattle.hm_world.proofs.SlotLemmas.{ends_quietly}

-- ---- between events

pub kept_after : (mid new : State) → IsBegun mid → Keeps mid new → IsKept new
kept_after mid new begun keeps =
    let r = begun.room in
    record {
      setup = ap setup_fault keeps.setup ∙ r.setup;
      events = omega (arith, r.few, keeps.events);
      net = omega (arith, r.sent, keeps.events, keeps.net);
      steps = omega (arith, r.steps, keeps.events, keeps.steps);
      clients = omega (arith, r.requests, keeps.events, keeps.clients);
      service = keeps.service ∙ r.service ∙ sym keeps.group;
    }

keeps_same : (old : State) → Keeps old old
keeps_same old = record { setup = refl; events = refl; net = refl; steps = omega arith; clients = omega arith; service = refl; group = refl }

-- ---- packets

pub read_nothing : (r : Bool) (m : Message) (o : Option Message) → (if r then Some m else None) ≡ o → r ≡ false → None ≡ o
read_nothing r m o e not_read = subst (λ (b : Bool). (if b then Some m else None) ≡ o) not_read e

pub read_packet : (r : Bool) (m : Message) (o : Option Message) → (if r then Some m else None) ≡ o → r ≡ true → Some m ≡ o
read_packet r m o e is_read = subst (λ (b : Bool). (if b then Some m else None) ≡ o) is_read e

-- the packet at the cursor
pub read_next : (r : Bool) (m : Message) (n : Posted) (at : ℕ) → (if r then Some m else None) ≡ slice_get n.packets at → at ≡ n.cursor → r ≡ true → Some m ≡ slice_get n.packets n.cursor
read_next r m n at e cursor is_read = read_packet r m (slice_get n.packets at) e is_read ∙ ap (λ (k : ℕ). slice_get n.packets k) cursor

pub none_at_zero : (w : World) (i : ℕ) → i ≡ 0 → None ≡ sent_at w i
none_at_zero w i e = rw e refl

pub sent_behind : (w : World) (i : ℕ) → 0 < i → slice_get w.net (i - 1) ≡ sent_at w i
sent_behind w i above = cond_both (i == 0) None (slice_get w.net (i - 1)) (λ (o : Option Message). slice_get w.net (i - 1) ≡ o) (λ t. absurd (let e : i ≡ 0 = grind (arith, nat_tests) in omega arith)) (λ f. refl)

pub sent_in : (w : World) (i : ℕ) (m : Message) → sent_at w i ≡ Some m → IsIn m w.net
sent_in w i m = cond_both (i == 0) None (slice_get w.net (i - 1)) (λ (o : Option Message). o ≡ Some m → IsIn m w.net) (λ t e. absurd (none-some m e)) (λ f e. at_in w.net (i - 1) m e)

-- no packet of this number was sent
pub none_arrives : (old : State) (o : Option Message) → None ≡ o → Ends old old (outcome.NotAllowed bar.NoPacket) (deliver (finds_full_with (slotted_of old) o) (world_of old) o)
none_arrives old o is =
    subst (λ (x : Option Message). Ends old old (outcome.NotAllowed bar.NoPacket) (deliver (finds_full_with (slotted_of old) x) (world_of old) x)) is
    (ends_quietly old old (outcome.NotAllowed bar.NoPacket) (deliver false (world_of old) None) (record { world = refl; outcome = refl; switches = refl; keeps = keeps_same old }))

pub none_next : (old : State) (o : Option Message) → None ≡ o → Ends old old (outcome.NotAllowed bar.NoPacket) (next (finds_full_with (slotted_of old) o) (world_of old) o)
none_next old o is =
    subst (λ (x : Option Message). Ends old old (outcome.NotAllowed bar.NoPacket) (next (finds_full_with (slotted_of old) x) (world_of old) x)) is
    (ends_quietly old old (outcome.NotAllowed bar.NoPacket) (next false (world_of old) None) (record { world = refl; outcome = refl; switches = refl; keeps = keeps_same old }))

-- a `next` for which there is no packet
pub none_comes : (old : State) (e : Event) → e ≡ event.Next → None ≡ slice_get old.net.packets old.net.cursor → Ends old old (outcome.NotAllowed bar.NoPacket) (slot_happens (slotted_of old) (event_of e))
none_comes old e is none =
    let found : Option Message = slice_get old.net.packets old.net.cursor in
    let place : old.net.cursor ≡ old.net.cursor + 1 - 1 = omega arith in
    let same : found ≡ sent_at (world_of old) (old.net.cursor + 1) = ap (λ (k : ℕ). slice_get old.net.packets k) place ∙ sent_behind (world_of old) (old.net.cursor + 1) (omega arith) in
    let ends : Ends old old (outcome.NotAllowed bar.NoPacket) (slot_happens (slotted_of old) (event_of event.Next)) =
    subst (λ (o : Option Message). Ends old old (outcome.NotAllowed bar.NoPacket) (next (finds_full_with (slotted_of old) o) (world_of old) found)) same (none_next old found none) in
    subst (λ (v : Event). Ends old old (outcome.NotAllowed bar.NoPacket) (slot_happens (slotted_of old) (event_of v))) (sym is) ends

-- ---- once the cursor has passed a packet

abbrev pub passed_to : State → State
passed_to old = record old { net = record old.net { cursor = old.net.cursor + 1 } }

origin_before : (w : World) (n : ℕ) (r : Replica) (s : Stepped) → Origin (passed w) n r s → Origin w n r s
origin_before w n r s (Origin.Arrival m sent here is) = Origin.Arrival m sent here is
origin_before w n r s (Origin.Tick is) = Origin.Tick is
origin_before w n r s (Origin.Timeout fixed is) = Origin.Timeout fixed is

step_before : (w : World) (n : ℕ) (s : Stepped) → IsStep (passed w) n s → IsStep w n s
step_before w n s x = record { replica = x.replica; there = x.there; live = x.live; done = x.done; origin = origin_before w n x.replica s x.origin }

begun_passed : (old : State) → IsBegun old → IsBegun (passed_to old)
begun_passed old b =
    let r = b.room in
    record {
      room = record { setup = r.setup; few = r.few; net = r.net; sent = r.sent; marks = r.marks; entries = r.entries; clients = r.clients; requests = r.requests; steps = r.steps; stops = r.stops; service = r.service };
      ready = record { declared = λ n s step. b.ready.declared n s (step_before (world_of old) n s step) };
    }

pub begun_next : (old : State) (net : Posted) → net ≡ record old.net { cursor = old.net.cursor + 1 } → IsBegun old → IsBegun (record old { net = net })
begun_next old net is b = subst (λ (n : Posted). IsBegun (record old { net = n })) (sym is) (begun_passed old b)

full_once_passed : (old : State) (n : ℕ) (b : Body) → finds_full_in (slotted_of (passed_to old)) n b ≡ finds_full_in (slotted_of old) n b
full_once_passed old n (body.Write write) = refl
full_once_passed old n other = refl

abbrev arriving : State → Message → Happened
arriving s m = arrives s m m.dst

passed_ends : (old new : State) (o : Outcome) (m : Message) → Ends (passed_to old) new o (arriving (passed_to old) m) → Ends old new o (next (finds_full_in (slotted_of old) (number m.dst) m.body) (world_of old) (Some m))
passed_ends old new o m e =
    let same : arriving (passed_to old) m ≡ next (finds_full_in (slotted_of old) (number m.dst) m.body) (world_of old) (Some m) =
    ap (λ (b : Bool). to_node b (passed (world_of old)) m m.dst) (full_once_passed old (number m.dst) m.body) in
    subst (λ (h : Happened). Ends old new o h) same
    (record { world = e.world; outcome = e.outcome; keeps = record { setup = e.keeps.setup; events = e.keeps.events; net = e.keeps.net; steps = e.keeps.steps; clients = e.keeps.clients; service = e.keeps.service; group = e.keeps.group } })

-- the packet at the cursor arrives once the cursor has passed it
pub next_ends : (old new : State) (o : Outcome) (net : Posted) (m : Message) → net ≡ record old.net { cursor = old.net.cursor + 1 } → Some m ≡ slice_get old.net.packets old.net.cursor → Ends (record old { net = net }) new o (arriving (record old { net = net }) m)
    → Ends old new o (next (finds_full_with (slotted_of old) (slice_get old.net.packets old.net.cursor)) (world_of old) (slice_get old.net.packets old.net.cursor))
next_ends old new o net m is here e =
    subst (λ (x : Option Message). Ends old new o (next (finds_full_with (slotted_of old) x) (world_of old) x)) here
    (passed_ends old new o m (subst (λ (n : Posted). Ends (record old { net = n }) new o (arriving (record old { net = n }) m)) is e))

-- ---- switches

pub started : {A : Type 0} (o : Option A) → is_some o ≡ true → (s : A) × (o ≡ Some s)
started None e = absurd (false≢true e)
started (Some s) e = (s, refl)

not_there : (old : State) (b : Bool) (n : ℕ) (m : Message) (o : Option AbstractSwitch) → is_some o ≡ false → Quietly old old (outcome.Ignored why.Gone) (to_switch b (world_of old) m n o)
not_there old b n m None e = record { world = refl; outcome = refl; switches = refl; keeps = keeps_same old }
not_there old b n m (Some s) e = absurd (false≢true (sym e))

pub not_started : (old : State) (b : Bool) (n : ℕ) (m : Message) → is_some (switch_at (world_of old) n) ≡ false → Ends old old (outcome.Ignored why.Gone) (to_switch b (world_of old) m n (switch_at (world_of old) n))
not_started old b n m e = ends_quietly old old (outcome.Ignored why.Gone) (to_switch b (world_of old) m n (switch_at (world_of old) n)) (not_there old b n m (switch_at (world_of old) n) e)
