use Rattle.std.proofs.Common.{◌≡◌, ℕ, ◌+◌, ◌-◌, ◌≤◌, List, drop, map, sym, ap, ◌∙◌, arith}
use Rattle.std.specs.Prelude.{slice_get, Some}
use Rattle.hm_schedule.specs.Generated.{events_from}
use Rattle.hm_schedule.specs.Limits.{max_events}
use Rattle.hm_schedule.specs.declared.event.Event.{Event}
use Rattle.hm_schedule.specs.declared.line.Line.{Line}
use Rattle.hm_schedule.specs.declared.line.Line.TheVariants as line
use Rattle.hm_schedule.specs.declared.generator.Generator.TheInside.{Inside}
use Rattle.hm_schedule.proofs.GeneratedLines.{none_left, past_group, first_event, events_but_first, events_rest, left_behind_group}
use Rattle.hm_schedule.proofs.generator.Generator.next_event.Goals as goal

pub returns-then-number-gt-MAX_EVENTS-clause-event : goal.returns-then-number-gt-MAX_EVENTS-clause-event
returns-then-number-gt-MAX_EVENTS-clause-event c events are =
    sym (ap (λ (l : List Event). slice_get l 0) (none_left c.self.inside events (c.self.view_is ∙ are) c.if-number-gt-MAX_EVENTS.true))

pub returns-then-number-gt-MAX_EVENTS-clause-rest : goal.returns-then-number-gt-MAX_EVENTS-clause-rest
returns-then-number-gt-MAX_EVENTS-clause-rest c events are =
    let none = none_left c.self.inside events (c.self.view_is ∙ are) c.if-number-gt-MAX_EVENTS.true in
    are ∙ ap (λ (l : List Event). map line.Event l) (none ∙ sym (ap (λ (l : List Event). drop 1 l) none))

pub next_event-event-requires-clause-number : goal.next_event-event-requires-clause-number
next_event-event-requires-clause-number c = past_group c.self.inside c.requires.0 (c.self.view_is ∙ c.requires.1)

pub returns-clause-event : goal.returns-clause-event
returns-clause-event c events are =
    let g = c.self.inside in
    let some = past_group g events (c.self.view_is ∙ are) in
    ap (λ (e : Event). Some e) c.next_event-event.ensures.event
    ∙ first_event g.kind g.size g.given g.state (max_events + 1 - g.given) events (omega (arith, c.if-number-gt-MAX_EVENTS.false)) (sym (left_behind_group g some) ∙ c.self.view_is ∙ are)

pub returns-clause-rest : goal.returns-clause-rest
returns-clause-rest c events are =
    let g = c.self.inside in
    let some = past_group g events (c.self.view_is ∙ are) in
    let few : g.given ≤ max_events = c.if-number-gt-MAX_EVENTS.false in
    let now : Inside = record g { state = c.next_event-event.new.state; given = g.given + 1 } in
    let left : max_events + 1 - g.given ≡ max_events + 1 - (g.given + 1) + 1 = omega arith in
    left_behind_group now (omega arith)
    ∙ ap (λ (state : ℕ). events_from g.kind g.size (g.given + 1) state (max_events + 1 - (g.given + 1))) c.next_event-event.ensures.state
    ∙ sym (
    ap (λ (l : List Line). drop 1 l) (sym are ∙ sym c.self.view_is ∙ left_behind_group g some)
    ∙ ap (λ (n : ℕ). drop 1 (events_from g.kind g.size g.given g.state n)) left
    ∙ events_rest g.kind g.size g.given g.state (max_events + 1 - (g.given + 1))
    )
    ∙ events_but_first events
