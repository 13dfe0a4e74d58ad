use Rattle.std.proofs.Common.{List, ap, ◌∙◌}
use Rattle.std.specs.Prelude.{slice_get}
use Rattle.hm_dirtyset.specs.declared.slot.Slot.{Slot}
use Rattle.hm_dirtyset.specs.Table.{kept_of}
use Rattle.hm_dirtyset.proofs.Writes.{unused_nothing}
use Rattle.hm_dirtyset.proofs.dirty_set.unused_slots.Goals as goal

pub returns-clause-nothing : goal.returns-clause-nothing
returns-clause-nothing c = λ i. ap (λ (l : List Slot). kept_of (slice_get l i)) (c.in_ok-slots.ensures.items_if_clones_equal (λ y same. same)) ∙ unused_nothing c.args.count i
