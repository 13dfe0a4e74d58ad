use Rattle.std.proofs.Common.{◌≡◌, ℕ, ◌*◌, ◌^◌, ◌≤◌, List, sym, ap, ◌∙◌, subst, arith}
use Rattle.std.specs.Prelude.{slice_get}
use Rattle.hm_base.specs.Slots.{Slots, live_slots, no_slots}
use Rattle.hm_dirtyset.specs.Table.{slots_in, number_of}
use Rattle.hm_dirtyset.specs.ByNumber.{IsByNumber, number_at}
use Rattle.hm_dirtyset.specs.Fields.{IsSingle, IsPlaced}
use Rattle.hm_dirtyset.proofs.Filled.{unfilled, count_nothing, nothing_listed}
use Rattle.hm_dirtyset.proofs.Shapes.{cells_few}
use Rattle.hm_dirtyset.proofs.Writes.{nothing_held, nothing_live, nothing_single, nothing_placed}
use Rattle.hm_dirtyset.proofs.dirty_set.DirtySet.open.Goals as goal

pub open-requires : goal.open-requires
open-requires c =
    let few : c.args.stages * 2 ^ c.args.bits ≤ 16384 = cells_few c.args.stages c.args.bits (omega arith) (omega arith) in
    omega (arith, c.slot_count-count.ensures)

none_held : (c : goal.In_ok-open) → slots_in c.args.stages c.args.bits c.in_ok-unused_slots.field-0.items ≡ no_slots c.args.stages c.args.bits
none_held c = nothing_held c.args.stages c.args.bits c.in_ok-unused_slots.field-0.items c.in_ok-unused_slots.ensures.nothing

number_none : (c : goal.In_ok-open) → (at : ℕ) → number_at c.in_ok-unused_slots.field-0.items at ≡ 0
number_none c at = unfilled (slice_get c.in_ok-unused_slots.field-0.items at) (c.in_ok-unused_slots.ensures.nothing at)

pub invariant_of-result : goal.invariant_of-result
invariant_of-result c = record {
  some = omega arith;
  few = omega arith;
  bits = omega arith;
  slots = c.in_ok-unused_slots.ensures.count ∙ c.slot_count-count.ensures;
  cells = c.in_ok-open.ensures.cells ∙ c.slot_count-count.ensures;
  listed = subst (λ (items : List ℕ). IsByNumber c.in_ok-unused_slots.field-0.items items) (sym c.in_ok-open.ensures.items) (nothing_listed c.in_ok-unused_slots.field-0.items (number_none c));
  counted = sym (count_nothing c.in_ok-unused_slots.field-0.items (number_none c));
  live = λ at some. some;
  newest = λ at. omega (arith, number_none c at);
  single = subst (λ (s : Slots). IsSingle s 0) (sym (none_held c)) (nothing_single c.args.stages c.args.bits 0);
  placed = subst IsPlaced (sym (none_held c)) (nothing_placed c.args.stages c.args.bits);
}

pub returns-clause-slots : goal.returns-clause-slots
returns-clause-slots c = ap (live_slots 0) (none_held c)

pub returns-clause-numbers : goal.returns-clause-numbers
returns-clause-numbers c = λ o. ap (λ (s : Slots). number_of s 0 o) (none_held c) ∙ nothing_live c.args.stages c.args.bits 0 o
