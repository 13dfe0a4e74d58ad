use Rattle.std.proofs.Common.{◌≡◌, ◌++◌, List, ℕ, length, drop, sym, ap, subst, ◌∙◌}
use Rattle.hm_order.specs.declared.mark.Mark.{Mark}
use Rattle.hm_order.specs.Legal.{IsWellFormed, AllDue}
use Rattle.hm_order.specs.Order.{order}
use Rattle.hm_schedule.specs.declared.line.Line.{Line}
use Rattle.hm_replay.specs.Commands.{made_lines}
use Rattle.hm_replay.specs.Summaries.{counts_text}
use Rattle.hm_replay.proofs.Summing.{starts, few, ends_so_far, steps, holds_at_end, summed}
use Rattle.hm_replay.proofs.commands.sum_up.Goals as goal

pub loop-event-init : goal.loop-event-init
loop-event-init c =
    starts c.args.made.kind c.args.made.size (made_lines c.args.made) _ _ _ (c.generated_is_a_schedule.ensures.events c.args.made.number c.args.made.kind c.args.made.size)
    (c.next_line-group.ensures.rest ∙ ap (λ (l : List Line). drop 1 l) c.open-generator.ensures)
    c.requires.opened c.requires.events c.none-counts.ensures

pub add-requires : goal.add-requires
add-requires c =
    let r = c.loop-event.invariant in
    ends_so_far c.args.made.kind c.args.made.size (made_lines c.args.made) _ _ _ r
    (few c.args.made.kind c.args.made.size (made_lines c.args.made) _ _ _ c.in-Some.event r (c.generated_is_a_schedule.ensures.count c.args.made.number c.args.made.kind c.args.made.size) (c.in-Some.ensures.event r.rest r.left_are))

pub loop-event-preserved : goal.loop-event-preserved
loop-event-preserved c =
    let r = c.loop-event.invariant in
    steps c.slotted_run_goes_on.ensures.world c.outcomes_are_the_slotted_runs.ensures.more c.args.made.kind c.args.made.size (made_lines c.args.made) _ _ _ _ _ _ c.in-Some.event _ r
    (c.in-Some.ensures.event r.rest r.left_are) (c.in-Some.ensures.rest r.rest r.left_are) c.in_ok-event.ensures.world c.in_ok-event.ensures.outcome c.in_ok-event.ensures.counted c.add.ensures

pub returns : goal.returns
returns c =
    let r = c.loop-event.invariant in
    let w = c.loop-event.world.world in
    let marks : w.history ≡ c.marks.result.now = sym (c.marks.ensures ∙ c.history.ensures) in
    let formed = holds_at_end c.outcomes_are_the_slotted_runs.ensures.same c.full_events_are_the_refusals.ensures.world IsWellFormed c.every_group_is_linearizable.ensures.formed
    c.args.made.kind c.args.made.size (made_lines c.args.made) _ c.loop-event.world c.loop-event.counts c.requires.made.of_group r in
    let due = holds_at_end c.outcomes_are_the_slotted_runs.ensures.same c.full_events_are_the_refusals.ensures.world AllDue c.every_group_is_linearizable.ensures.due
    c.args.made.kind c.args.made.size (made_lines c.args.made) _ c.loop-event.world c.loop-event.counts c.requires.made.of_group r in
    let ordered = c.ordered_count-ordered.ensures (subst IsWellFormed marks formed) (subst AllDue marks due) in
    summed c.outcomes_are_the_slotted_runs.ensures.same c.full_events_are_the_refusals.ensures.world c.args.made.kind c.args.made.size (made_lines c.args.made) _ c.loop-event.world c.loop-event.counts
    _ _ r (c.in_default.ensures.event r.rest r.left_are)
    (c.in_ok-write_outcomes.ensures ∙ ap (λ (t : List ℕ). t ++ counts_text c.events.result c.loop-event.counts) c.new-text.ensures ∙ ap (λ (n : ℕ). counts_text n c.loop-event.counts) c.events.ensures)
    (c.in_ok-write_end.ensures w c.sent_count.ensures.count (c.marks-2.ensures ∙ c.history-2.ensures) (ordered ∙ ap (λ (h : List Mark). length (order h)) (sym marks)))
