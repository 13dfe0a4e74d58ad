use Rattle.std.proofs.Common.{inl, refl, arith}
use Rattle.hm_schedule.proofs.FieldFaults.{great_number, no_range}
use Rattle.hm_schedule.proofs.reason.number_fault.Goals as goal
use Rattle.hm_schedule.proofs.reason.number_fault.Goals.{else-number-from-via-then-number-from+else-number-from-2, else-number-from-via-else-number-from}

pub returns-then-number-below-clause-some : goal.returns-then-number-below-clause-some
returns-then-number-below-clause-some c = inl (great_number c.args.below c.in-Some.number c.args.word.now c.if-number-below.true (omega arith) c.in-Some.ensures.some, refl)

pub returns-else-number-from-clause-some : goal.returns-else-number-from-clause-some
returns-else-number-from-clause-some c =
    no_range c.args.below c.args.least c.args.most c.in-Some.number c.args.word.now (omega arith) (omega arith) c.in-Some.ensures.some
    (λ low high. elim c.else-number-from.branch [
      | else-number-from-via-then-number-from+else-number-from-2 w ↦ omega (arith, c.from.ensures, w.from-then-number-from.ensures)
      | else-number-from-via-else-number-from w ↦ omega (arith, c.from.ensures)
    ])
