use Rattle.hm_base.specs.StepCounts.{TakesAtMost}
use Rattle.hm_dirtyset.specs.Table.{slots_in}
use Rattle.hm_dirtyset.proofs.Looks.{IsLooking}
use Rattle.hm_dirtyset.proofs.find.find.Given as goal

abbrev pub invariant-loop-stage : goal.invariant-loop-stage
invariant-loop-stage g l = record {
  looking : IsLooking (slots_in l.stages l.bits l.slots) l.point l.object l.stage l.free;
  steps : TakesAtMost g.L.StepLedger.counts l.initial.steps l.steps l.stage;
}
