use Rattle.std.proofs.Common.{arith}
use Rattle.hm_operator.proofs.Fields.{none_if, no_number, great_number}
use Rattle.hm_operator.proofs.reading.byte_of.Goals as goal

pub returns-in_err-number-clause-none : goal.returns-in_err-number-clause-none
returns-in_err-number-clause-none c = none_if c.from_residual.result _ (λ is. no_number c.args.word.now c.in_err-number.ensures.none is)

pub returns-then-number-gt255-clause-none : goal.returns-then-number-gt255-clause-none
returns-then-number-gt255-clause-none c is = great_number c.args.word.now c.in_ok-number.number c.if-number-gt255.true (omega arith) c.in_ok-number.ensures.some is
