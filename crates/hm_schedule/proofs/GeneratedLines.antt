-- What is made of a number is a schedule.
use Rattle.std.proofs.Common.{◌≡◌, ℕ, zero, suc, ◌+◌, ◌-◌, ◌/◌, ◌%◌, ◌<◌, ◌≤◌, List, [], ◌∷◌, length, drop, inl, inr, refl, sym, ap, ◌∙◌, arith, lit≤, add-one}
use Rattle.std.specs.Prelude.{◌==◌, slice_get, Option, Some, None, map}
use Rattle.std.specs.Int.{w16, to_be_bytes}
use Rattle.std.proofs.lemmas.Bool.{cond_both, cond-true, cond-false, eq-eqb, ne_eqb, cases_eq}
use Rattle.hex.specs.Hex.{IsBytes}
use Rattle.hm_base.specs.declared.node.GroupKind.{GroupKind}
use Rattle.hm_base.specs.declared.node.GroupKind.TheVariants as kind
use Rattle.hm_schedule.specs.Generated.{next_state, timeout_odds, event_made, event_from, timeout_made, events_from, generated}
use Rattle.hm_schedule.specs.Generators.{lines_left, IsGroupThenEvents}
use Rattle.hm_schedule.specs.Limits.{max_events}
use Rattle.hm_schedule.specs.Orders.{Stage, ComeFrom, IsSchedule}
use Rattle.hm_schedule.specs.Ranges.{IsValue}
use Rattle.hm_schedule.specs.Schedules.{IsLawfulGroup, IsLawfulEvent}
use Rattle.hm_schedule.specs.declared.event.Event.{Event}
use Rattle.hm_schedule.specs.declared.event.Event.TheVariants as event
use Rattle.hm_schedule.specs.declared.generator.Choice.{Choice}
use Rattle.hm_schedule.specs.declared.generator.Choice.TheVariants as choice
use Rattle.hm_schedule.specs.declared.generator.Generator.TheInside.{Inside}
use Rattle.hm_schedule.specs.declared.line.Line.{Line}
use Rattle.hm_schedule.specs.declared.line.Line.TheVariants as line

-- a lawful group has a member, and few of them
pub record HasMembers (size : ℕ) : Type 0 where
  pub some : 0 < size
  pub few : size ≤ 7

pub group_members : (k : GroupKind) (size : ℕ) → IsLawfulGroup k size → HasMembers size
group_members kind.Chain size h = record { some = omega (arith, h.0); few = h.1 }
group_members kind.Primary size h = record { some = omega (arith, h.0); few = h.1 }
group_members kind.Vr zero h = absurd (let e : 0 % 2 ≡ 1 = h.0 in omega arith)
group_members kind.Vr (suc n) h = record { some = omega arith; few = h.1 }

replica_made : (amount size : ℕ) → HasMembers size → amount % size ≤ 6
replica_made amount size h = let some : 0 < size = h.some in let few : size ≤ 7 = h.few in omega arith

timeout_lawful : (k : GroupKind) (size amount : ℕ) → HasMembers size → IsLawfulEvent (timeout_made k size amount)
timeout_lawful kind.Chain size amount h = tt
timeout_lawful kind.Primary size amount h = tt
timeout_lawful kind.Vr size amount h =
    cond_both (amount % timeout_odds == 0) (event.Timeout ((amount / timeout_odds) % size)) event.Next IsLawfulEvent (λ t. replica_made (amount / timeout_odds) size h) (λ f. tt)

number_bytes : (number : ℕ) → IsValue (to_be_bytes w16 number)
number_bytes number = record { bytes = each; short = lit≤ tt }
  where
    each : IsBytes (to_be_bytes w16 number)
    each zero = omega arith
    each (suc zero) = omega arith
    each (suc (suc i)) = omega arith

event_lawful : (c : Choice) (k : GroupKind) (size number amount : ℕ) → HasMembers size → 0 < number → number ≤ max_events → IsLawfulEvent (event_made c k size number amount)
event_lawful choice.Write k size number amount h some few = record { of_client = omega arith; of_object = omega arith; of_value = number_bytes number; of_switch = record { some = omega arith; fits = omega arith } }
event_lawful choice.Read k size number amount h some few = record { of_client = omega arith; of_object = omega arith; of_switch = record { some = omega arith; fits = omega arith } }
event_lawful choice.Resend k size number amount h some few = record { of_client = omega arith; of_switch = record { some = omega arith; fits = omega arith } }
event_lawful choice.Tick k size number amount h some few = replica_made amount size h
event_lawful choice.Drop k size number amount h some few = tt
event_lawful choice.Deliver k size number amount h some few = omega arith
event_lawful choice.Timeout k size number amount h some few = timeout_lawful k size amount h
event_lawful choice.Next k size number amount h some few = tt

-- behind some events
events_come : (k : GroupKind) (size done state n : ℕ) → HasMembers size → done + n ≤ max_events → ComeFrom (Stage.Running done) (events_from k size (done + 1) state n)
unfolding events_from
events_come k size done state zero h few = tt
events_come k size done state (suc n) h few = (
  (event_lawful _ k size (done + 1) _ h (omega arith) (omega arith), omega arith),
  events_come k size (done + 1) (next_state (next_state state)) n h (omega arith),
)

-- behind the group's line
events_first : (k : GroupKind) (size state n : ℕ) → HasMembers size → n ≤ max_events → ComeFrom (Stage.Setting 0) (events_from k size 1 state n)
unfolding events_from
events_first k size state zero h few = tt
events_first k size state (suc n) h few = (
  (event_lawful _ k size 1 _ h (omega arith) (omega arith), omega arith),
  events_come k size 1 (next_state (next_state state)) n h (omega arith),
)

pub generated_schedule : (number : ℕ) (k : GroupKind) (size : ℕ) → IsLawfulGroup k size → IsSchedule (generated number k size)
unfolding generated
generated_schedule number k size lawful = record {
  begun = ((lawful, tt), events_first k size number max_events (group_members k size lawful) (omega arith));
  group = λ e. cc;
}

length-events_from : (k : GroupKind) (size number state n : ℕ) → length (events_from k size number state n) ≡ n
unfolding events_from
length-events_from k size number state zero = refl
length-events_from k size number state (suc n) = omega (arith, length-events_from k size (number + 1) (next_state (next_state state)) n)

pub length-generated : (number : ℕ) (k : GroupKind) (size : ℕ) → length (generated number k size) ≡ max_events + 1
unfolding generated
length-generated number k size = omega (arith, length-events_from k size 1 number max_events)

only_events : (k : GroupKind) (size number state n : ℕ) → (events : List Event) × (events_from k size number state n ≡ map line.Event events)
unfolding events_from
only_events k size number state zero = ([], refl)
only_events k size number state (suc n) =
    let later = only_events k size (number + 1) (next_state (next_state state)) n in
    let first : Event = event_from k size number state in
    (first ∷ later.0, ap (λ (l : List Line). line.Event first ∷ l) later.1)

pub group_then_events : (number : ℕ) (k : GroupKind) (size : ℕ) → IsGroupThenEvents k size (generated number k size)
unfolding generated
group_then_events number k size =
    let made = only_events k size 1 number max_events in
    record { events = made.0; parts = ap (λ (l : List Line). line.Group k size ∷ l) made.1 }

-- ---- the lines that are left

pub generated_front : (number : ℕ) (k : GroupKind) (size : ℕ) → slice_get (generated number k size) 0 ≡ Some (line.Group k size)
unfolding generated
generated_front number k size = refl

pub generated_rest : (number : ℕ) (k : GroupKind) (size : ℕ) → drop 1 (generated number k size) ≡ events_from k size 1 number max_events
unfolding generated
generated_rest number k size = refl

pub events_front : (k : GroupKind) (size number state n : ℕ) → 0 < n → slice_get (events_from k size number state n) 0 ≡ Some (line.Event (event_from k size number state))
unfolding events_from
events_front k size number state zero some = absurd (omega arith)
events_front k size number state (suc n) some = refl

pub events_rest : (k : GroupKind) (size number state n : ℕ) → drop 1 (events_from k size number state (n + 1)) ≡ events_from k size (number + 1) (next_state (next_state state)) n
unfolding events_from
events_rest k size number state n = ap (λ (m : ℕ). drop 1 (events_from k size number state m)) (add-one n)

pub events_over : (k : GroupKind) (size number state n : ℕ) → n ≡ 0 → events_from k size number state n ≡ []
unfolding events_from
events_over k size number state n none = ap (λ (m : ℕ). events_from k size number state m) none

-- of a generator

pub left_behind_group : (g : Inside) → 0 < g.given → lines_left g ≡ events_from g.kind g.size g.given g.state (max_events + 1 - g.given)
left_behind_group g some = cond-false (g.given == 0) (generated g.state g.kind g.size) (events_from g.kind g.size g.given g.state (max_events + 1 - g.given)) (ne_eqb g.given 0 (λ e. let none : g.given ≡ 0 = e in omega arith))

pub left_at_first : (g : Inside) → g.given ≡ 0 → lines_left g ≡ generated g.state g.kind g.size
left_at_first g none = cond-true (g.given == 0) (generated g.state g.kind g.size) (events_from g.kind g.size g.given g.state (max_events + 1 - g.given)) (eq-eqb g.given 0 none)

-- of a generator whose lines are all events

abbrev event_ahead : List Line → Option Event
event_ahead [] = None
event_ahead (line.Event e ∷ lines) = Some e
event_ahead (other ∷ lines) = None

event_ahead-map : (events : List Event) → event_ahead (map line.Event events) ≡ slice_get events 0
event_ahead-map [] = refl
event_ahead-map (e ∷ es) = refl

event_ahead-events : (k : GroupKind) (size number state n : ℕ) → 0 < n → event_ahead (events_from k size number state n) ≡ Some (event_from k size number state)
unfolding events_from
event_ahead-events k size number state zero some = absurd (omega arith)
event_ahead-events k size number state (suc n) some = refl

pub first_event : (k : GroupKind) (size number state n : ℕ) (events : List Event) → 0 < n → events_from k size number state n ≡ map line.Event events → Some (event_from k size number state) ≡ slice_get events 0
first_event k size number state n events some are = sym (event_ahead-events k size number state n some) ∙ ap event_ahead are ∙ event_ahead-map events

pub events_but_first : (events : List Event) → drop 1 (map line.Event events) ≡ map line.Event (drop 1 events)
events_but_first [] = refl
events_but_first (e ∷ es) = refl

pub no_events : (events : List Event) → map line.Event events ≡ [] → events ≡ []
no_events [] none = refl
no_events (e ∷ es) none = cc

group_ahead : (number : ℕ) (k : GroupKind) (size : ℕ) (events : List Event) → generated number k size ≡ map line.Event events → ⊥
group_ahead number k size [] are = let front : Some (line.Group k size) ≡ slice_get [] 0 = sym (generated_front number k size) ∙ ap (λ (l : List Line). slice_get l 0) are in cc
group_ahead number k size (e ∷ es) are = let front : Some (line.Group k size) ≡ Some (line.Event e) = sym (generated_front number k size) ∙ ap (λ (l : List Line). slice_get l 0) are in cc

-- the group's line was given
pub past_group : (g : Inside) (events : List Event) → lines_left g ≡ map line.Event events → 0 < g.given
past_group g events are = elim (cases_eq g.given 0) [
  | inl none ↦ absurd (group_ahead g.state g.kind g.size events (sym (left_at_first g none) ∙ are))
  | inr some ↦ omega (arith, some)
]

-- nothing is left
pub none_left : (g : Inside) (events : List Event) → lines_left g ≡ map line.Event events → max_events < g.given → events ≡ []
none_left g events are past =
    no_events events (sym are ∙ left_behind_group g (omega (arith, past)) ∙ events_over g.kind g.size g.given g.state (max_events + 1 - g.given) (omega (arith, past)))
