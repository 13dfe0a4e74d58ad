use Rattle.std.proofs.Common.{◌≡◌, ◌≢◌, ℕ, ◌+◌, ◌-◌, ◌<◌, ◌≤◌, List, [], drop, sym, ap, ◌∙◌, arith}
use Rattle.std.specs.Prelude.{slice_get, Some}
use Rattle.hm_schedule.specs.Generated.{events_from}
use Rattle.hm_schedule.specs.Generators.{lines_left}
use Rattle.hm_schedule.specs.Limits.{max_events}
use Rattle.hm_schedule.specs.declared.event.Event.{Event}
use Rattle.hm_schedule.specs.declared.line.Line.{Line}
use Rattle.hm_schedule.specs.declared.line.Line.TheVariants as line
use Rattle.hm_schedule.specs.declared.generator.Generator.TheInside.{Inside}
use Rattle.hm_schedule.proofs.GeneratedLines.{generated_front, generated_rest, events_front, events_rest, events_over, left_behind_group, left_at_first}
use Rattle.hm_schedule.proofs.generator.Generator.next_line.Goals as goal

-- nothing is left
over : (g : Inside) (lines : List Line) → lines_left g ≡ lines → max_events < g.given → lines ≡ []
over g lines view past = sym view ∙ left_behind_group g (omega arith) ∙ events_over g.kind g.size g.given g.state (max_events + 1 - g.given) (omega arith)

pub returns-then-number-gt-MAX_EVENTS-clause-line : goal.returns-then-number-gt-MAX_EVENTS-clause-line
returns-then-number-gt-MAX_EVENTS-clause-line c = sym (ap (λ (l : List Line). slice_get l 0) (over c.self.inside c.args.self.now c.self.view_is c.if-number-gt-MAX_EVENTS.true))

pub returns-then-number-gt-MAX_EVENTS-clause-rest : goal.returns-then-number-gt-MAX_EVENTS-clause-rest
returns-then-number-gt-MAX_EVENTS-clause-rest c =
    let none : c.args.self.now ≡ [] = over c.self.inside c.args.self.now c.self.view_is c.if-number-gt-MAX_EVENTS.true in
    none ∙ sym (ap (λ (l : List Line). drop 1 l) none)

pub returns-then-number-eq0-clause-line : goal.returns-then-number-eq0-clause-line
returns-then-number-eq0-clause-line c =
    let g = c.self.inside in
    sym (ap (λ (l : List Line). slice_get l 0) (sym c.self.view_is ∙ left_at_first g c.if-number-eq0.true) ∙ generated_front g.state g.kind g.size)

pub returns-then-number-eq0-clause-rest : goal.returns-then-number-eq0-clause-rest
returns-then-number-eq0-clause-rest c =
    let g = c.self.inside in
    let now : Inside = record g { given = g.given + 1 } in
    let first : g.given ≡ 0 = c.if-number-eq0.true in
    let one : g.given + 1 ≡ 1 = omega arith in
    left_behind_group now (omega arith)
    ∙ ap (λ (n : ℕ). events_from g.kind g.size n g.state (max_events + 1 - n)) one
    ∙ sym (ap (λ (l : List Line). drop 1 l) (sym c.self.view_is ∙ left_at_first g first) ∙ generated_rest g.state g.kind g.size)

pub returns-clause-line : goal.returns-clause-line
returns-clause-line c =
    let g = c.self.inside in
    let some : 0 < g.given = let other : g.given ≢ 0 = c.if-number-eq0.false in omega arith in
    ap (λ (e : Event). Some (line.Event e)) c.next_event-event.ensures.event
    ∙ sym (ap (λ (l : List Line). slice_get l 0) (sym c.self.view_is ∙ left_behind_group g some) ∙ events_front g.kind g.size g.given g.state (max_events + 1 - g.given) (omega (arith, c.if-number-gt-MAX_EVENTS.false)))

pub returns-clause-rest : goal.returns-clause-rest
returns-clause-rest c =
    let g = c.self.inside in
    let some : 0 < g.given = let other : g.given ≢ 0 = c.if-number-eq0.false in omega arith in
    let few : g.given ≤ max_events = c.if-number-gt-MAX_EVENTS.false in
    let now : Inside = record g { state = c.next_event-event.new.state; given = g.given + 1 } in
    let left : max_events + 1 - g.given ≡ max_events + 1 - (g.given + 1) + 1 = omega arith in
    left_behind_group now (omega arith)
    ∙ ap (λ (state : ℕ). events_from g.kind g.size (g.given + 1) state (max_events + 1 - (g.given + 1))) c.next_event-event.ensures.state
    ∙ sym (
    ap (λ (l : List Line). drop 1 l) (sym c.self.view_is ∙ left_behind_group g some)
    ∙ ap (λ (n : ℕ). drop 1 (events_from g.kind g.size g.given g.state n)) left
    ∙ events_rest g.kind g.size g.given g.state (max_events + 1 - (g.given + 1))
    )
