use Rattle.std.proofs.Common.{◌≡◌, ℕ, ◌+◌, ◌-◌, ◌≤◌, List, length, ap, ◌∙◌, subst, arith}
use Rattle.std.specs.Prelude.{slice_get}
use Rattle.hm_base.specs.Slots.{live_part, slots_raised}
use Rattle.hm_base.specs.StepCounts.{TakesAtMost}
use Rattle.hm_dirtyset.specs.declared.slot.Slot.{Slot}
use Rattle.hm_dirtyset.specs.Table.{Table, CountsLive, kept_of, slots_of, live_number, number_above}
use Rattle.hm_dirtyset.specs.Fields.{table_of}
use Rattle.hm_dirtyset.proofs.Census.{counts_live, counts_once}
use Rattle.hm_dirtyset.proofs.Cleans.{IsCleaned, cleaned, cleaned_sound, slots_cleaned, number_cleaned}
use Rattle.hm_dirtyset.proofs.dirty_set.DirtySet.clean_to.Given.{Over}
use Rattle.hm_dirtyset.proofs.dirty_set.DirtySet.clean_to.Goals as goal

-- what was emptied
done : (g : Over) (c : goal.After-self-2-1 g) → IsCleaned c.self.inside c.empty_reached.new.slots c.empty_reached.new.by_number.items c.empty_reached.new.live c.args.point
done g c = record {
  len = c.empty_reached.auto.slots ∙ ap (λ (l : List Slot). length l) c.deref_mut.ensures.value;
  listed = c.empty_reached.ensures.listed;
  counted = c.empty_reached.ensures.counted;
  emptied = λ at. c.empty_reached.ensures.emptied at ∙ ap (λ (l : List Slot). live_part c.args.point (kept_of (slice_get l at))) c.deref_mut.ensures.value;
}

raised : (g : Over) (c : goal.After-self-2-1 g) → c.self.inside.point ≤ c.args.point
raised g c = let point : c.self.inside.point ≡ c.args.self.now.point = ap (λ (t : Table). t.point) c.self.view_is in omega (arith, point, c.requires)

pub invariant_of-self : goal.invariant_of-self
invariant_of-self g c = cleaned_sound c.self.inside c.empty_reached.new.slots c.empty_reached.new.by_number c.empty_reached.new.live c.args.point c.self.invariant (raised g c) (done g c) c.empty_reached.ensures.cells

pub returns-clause-slots : goal.returns-clause-slots
returns-clause-slots g c =
    slots_cleaned c.self.inside c.empty_reached.new.slots c.empty_reached.new.by_number c.empty_reached.new.live c.args.point (raised g c) (done g c)
    ∙ ap (λ (t : Table). slots_raised t.point c.args.point (slots_of t)) c.self.view_is

pub returns-clause-numbers : goal.returns-clause-numbers
returns-clause-numbers g c = λ object.
    number_cleaned c.self.inside c.empty_reached.new.slots c.empty_reached.new.by_number c.empty_reached.new.live c.args.point object c.self.invariant (raised g c) (done g c)
    ∙ ap (λ (t : Table). number_above c.args.point (live_number t object)) c.self.view_is

pub returns-clause-steps : goal.returns-clause-steps
returns-clause-steps g c = λ before after was is.
    let s = c.self.inside in
    let first : s.live ≡ before = counts_once c.args.self.now s.live before (subst (λ (t : Table). CountsLive t s.live) c.self.view_is (counts_live s c.self.invariant)) was in
    let now = cleaned s c.empty_reached.new.slots c.empty_reached.new.by_number c.empty_reached.new.live c.args.point in
    let last : c.empty_reached.new.live ≡ after = counts_once (table_of now) now.live after (counts_live now (invariant_of-self g c)) is in
    subst (λ (n : ℕ). TakesAtMost g.L.StepLedger.counts c.args.steps.now c.empty_reached.new.steps (n - after + 1)) first
    (subst (λ (n : ℕ). TakesAtMost g.L.StepLedger.counts c.args.steps.now c.empty_reached.new.steps (s.live - n + 1)) last c.empty_reached.ensures.steps)
