use Rattle.std.proofs.Common.{◌≡◌, ℕ, ◌+◌, ◌-◌, ◌<◌, ◌≤◌, cond, List, set, length, refl, sym, ap, ◌∙◌, subst, arith}
use Rattle.std.specs.Prelude.{nat_lt, true}
use Rattle.std.proofs.lemmas.Bool.{lt-ltb}
use Rattle.hm_links.specs.Linked.{is_linked, others}
use Rattle.hm_dirtyset.specs.declared.slot.Slot.{Slot}
use Rattle.hm_dirtyset.specs.ByNumber.{number_at, filled_count, IsByNumber}
use Rattle.hm_dirtyset.proofs.Counts.{takes_then, takes_fewer}
use Rattle.hm_dirtyset.proofs.InOrder.{emptied}
use Rattle.hm_dirtyset.proofs.Filled.{number-set_same, number-set_other, filled_within, linked_filled, count-set, part-emptied}
use Rattle.hm_dirtyset.proofs.emptying.empty_reached.Goals as goal

-- a slot of the list, when it is emptied
record IsFreed (held : List Slot) (items : List ℕ) (i : ℕ) : Type 0 where
  within : i < length held
  count : filled_count (set held i (record { object = 0; number = 0 })) + 1 ≡ filled_count held
  listed : IsByNumber (set held i (record { object = 0; number = 0 })) (others i items)

freed : (held : List Slot) (items : List ℕ) (i : ℕ) → IsByNumber held items → is_linked i items ≡ true → IsFreed held items i
freed held items i h linked =
    let some : 0 < number_at held i = linked_filled held items i h linked in
    let within : i < length held = filled_within held i some in
    let none : Slot = record { object = 0; number = 0 } in
    record {
      within = within;
      count =
          let counted : filled_count (set held i none) + cond (nat_lt 0 (number_at held i)) 1 0 ≡ filled_count held + 0 = count-set held i none within in
          let one : cond {A = ℕ} (nat_lt 0 (number_at held i)) 1 0 ≡ 1 = ap (λ b. cond {A = ℕ} b 1 0) (lt-ltb 0 (number_at held i) some) in
          omega arith;
      listed = emptied (number_at held) (number_at (set held i none)) i items h (number-set_same held i none within) (λ k other. number-set_other held i k none other);
    }

pub overflow_sub-live : goal.overflow_sub-live
overflow_sub-live g c =
    let f : IsFreed c.loop-at.slots c.loop-at.by_number.items c.in-Some.at = freed c.loop-at.slots c.loop-at.by_number.items c.in-Some.at c.loop-at.invariant.listed c.in-Some.ensures.linked in
    omega (arith, f.count, c.loop-at.invariant.counted)

pub loop-at-smaller : goal.loop-at-smaller
loop-at-smaller g c =
    let f : IsFreed c.loop-at.slots c.loop-at.by_number.items c.in-Some.at = freed c.loop-at.slots c.loop-at.by_number.items c.in-Some.at c.loop-at.invariant.listed c.in-Some.ensures.linked in
    omega (arith, f.count, c.loop-at.invariant.counted)

pub loop-at-preserved : goal.loop-at-preserved
loop-at-preserved g c =
    let f : IsFreed c.loop-at.slots c.loop-at.by_number.items c.in-Some.at = freed c.loop-at.slots c.loop-at.by_number.items c.in-Some.at c.loop-at.invariant.listed c.in-Some.ensures.linked in
    let none : Slot = record { object = 0; number = 0 } in
    let fewer : c.loop-at.live ≤ c.args.live.now = c.loop-at.invariant.fewer in
    let one : 1 ≤ c.loop-at.live = omega (arith, f.count, c.loop-at.invariant.counted) in
    record {
      listed = subst (λ (items : List ℕ). IsByNumber (set c.loop-at.slots c.in-Some.at none) items) (sym c.unlink.ensures.items) f.listed;
      cells = c.unlink.ensures.cells ∙ c.loop-at.invariant.cells;
      counted = omega (arith, f.count, c.loop-at.invariant.counted);
      same = λ at. part-emptied c.args.point c.loop-at.slots c.in-Some.at at none refl f.within c.in-Some.ensures.reached ∙ c.loop-at.invariant.same at;
      fewer = omega arith;
      steps = takes_fewer g.L.StepLedger.counts _ _ (c.args.live.now - c.loop-at.live + 1) (c.args.live.now - (c.loop-at.live - 1))
          (takes_then g.L.StepLedger.counts _ _ _ (c.args.live.now - c.loop-at.live) 1 c.loop-at.invariant.steps c.in-Some.ensures.steps) (omega arith);
    }
