use Rattle.std.proofs.Common.{◌≡◌, length, ap, sym, ◌∙◌, arith, eqb-true}
use Rattle.hm_base.proofs.HexTexts.{value_text-some, some_value}
use Rattle.hm_base.specs.Spellings.{value_text}
use Rattle.hm_base.proofs.spelling.read_value.Goals as goal

pub returns-then-is_empty-clause-none : goal.returns-then-is_empty-clause-none
returns-then-is_empty-clause-none c v bytes len e =
    let none : length c.args.text.now ≡ 0 = eqb-true _ _ (sym c.is_empty.ensures ∙ c.if-is_empty.true) in
    let same : length c.args.text.now ≡ length (value_text v) = ap length e in
    omega (arith, value_text-some v)

pub returns-clause-some : goal.returns-clause-some
returns-clause-some c = some_value c.read_digits.result c.args.text.now (sym c.is_empty.ensures ∙ c.if-is_empty.false) c.read_digits.ensures.some
