use Rattle.std.proofs.Common.{◌≡◌, ℕ, ap, sym, ◌∙◌}
use Rattle.std.specs.Prelude.{decimal}
use Rattle.std.proofs.lemmas.Fmt.{parse-decimal}
use Rattle.hm_base.proofs.spelling.number_in.Goals as goal

pub returns-in-Err-clause-none : goal.returns-in-Err-clause-none
returns-in-Err-clause-none c n lt e =
    let same = parse-decimal 64 n c.args.text.now c.parse.result lt lt e c.parse.ensures.value.0 in
    let is = c.in-Err.is in
    absurd cc

pub returns-else-is_spelled-clause-none : goal.returns-else-is_spelled-clause-none
returns-else-is_spelled-clause-none c n lt e =
    let same = parse-decimal 64 n c.args.text.now c.parse.result lt lt e c.parse.ensures.value.0 in
    let is = c.in-Ok.is in
    let number : c.in-Ok.number ≡ n = cc in
    let spelled = c.is_spelled.ensures.1 (ap (λ (k : ℕ). decimal k) number ∙ sym e) in
    let missed = c.if-is_spelled.false in
    absurd cc
