use Rattle.std.proofs.Common.{◌≡◌, ℕ, ◌-◌, ◌≤◌}
use Rattle.std.specs.Prelude.{slice_get}
use Rattle.hm_base.specs.Slots.{live_part}
use Rattle.hm_base.specs.StepCounts.{TakesAtMost}
use Rattle.hm_dirtyset.specs.Table.{kept_of}
use Rattle.hm_dirtyset.specs.ByNumber.{IsByNumber, filled_count}
use Rattle.hm_dirtyset.proofs.emptying.empty_reached.Given as goal

abbrev pub invariant-loop-at : goal.invariant-loop-at
invariant-loop-at g l = record {
  listed : IsByNumber l.slots l.by_number.items;
  cells : l.by_number.cells ≡ l.initial.by_number.cells;
  counted : l.live ≡ filled_count l.slots;
  same : (at : ℕ) → live_part l.point (kept_of (slice_get l.slots at)) ≡ live_part l.point (kept_of (slice_get l.initial.slots at));
  fewer : l.live ≤ l.initial.live;
  steps : TakesAtMost g.L.StepLedger.counts l.initial.steps l.steps (l.initial.live - l.live);
}

abbrev pub decreases-loop-at : goal.decreases-loop-at
decreases-loop-at g l = l.live
