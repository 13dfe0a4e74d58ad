use Rattle.std.proofs.Common.{◌≡◌, true, inl, refl, arith}
use Rattle.hm_schedule.proofs.FieldFaults.{great_number, no_size}
use Rattle.hm_schedule.proofs.reason.size_fault.Goals as goal

pub returns-then-size-from-clause-some : goal.returns-then-size-from-clause-some
returns-then-size-from-clause-some c = inl (great_number 256 c.in-Some.size c.args.word.now (omega (arith, c.from.ensures)) (omega arith) c.in-Some.ensures.some, refl)

pub returns-else-has_size-clause-some : goal.returns-else-has_size-clause-some
returns-else-has_size-clause-some c =
    rw c.in-Some-kind.is (no_size c.in-Some-kind.kind c.in-Some.size c.args.word.now (omega (arith, c.from.ensures)) c.in-Some.ensures.some (λ lawful. let yes : c.has_size.result ≡ true = c.has_size.ensures.1 lawful in cc (yes, c.if-has_size.false)))
