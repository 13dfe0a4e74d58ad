use Rattle.std.proofs.Common.{sym, ◌∙◌, arith}
use Rattle.std.proofs.lemmas.Fmt.{decimal_injective}
use Rattle.hm_daemon.proofs.address.number_within.Goals as goal

pub returns-then-number-least-clause-only : goal.returns-then-number-least-clause-only
returns-then-number-least-clause-only c n low high same =
    let one = decimal_injective c.in_ok-number.number n (omega arith) (omega arith) (sym c.in_ok-number.ensures.some ∙ same) in
    absurd (omega (arith, one))

pub returns-then-number-most-clause-only : goal.returns-then-number-most-clause-only
returns-then-number-most-clause-only c n low high same =
    let one = decimal_injective c.in_ok-number.number n (omega arith) (omega arith) (sym c.in_ok-number.ensures.some ∙ same) in
    absurd (omega (arith, one))

pub returns-clause-only : goal.returns-clause-only
returns-clause-only c n low high same =
    let one = decimal_injective c.in_ok-number.number n (omega arith) (omega arith) (sym c.in_ok-number.ensures.some ∙ same) in
    cc
