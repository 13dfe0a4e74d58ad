use Rattle.std.proofs.Common.{◌≡◌, ◌*◌, length, ap, arith, ◌∙◌, subst, sym}
use Rattle.std.proofs.lemmas.List.{length-take}
use Rattle.hex.specs.Hex.{IsBytes, lower_digits}
use Rattle.hex.proofs.HexLemmas.{length-encode_with}
use Rattle.hm_base.proofs.HexDigits.{read_none, read_more, bytes_take}
use Rattle.hm_base.proofs.hexadecimal.read_digits.Goals as goal

pub returns-then-text-ne0-clause-none : goal.returns-then-text-ne0-clause-none
returns-then-text-ne0-clause-none c v bytes len e =
    let count : length c.args.text.now ≡ 2 * length v = ap length e ∙ length-encode_with lower_digits v in
    omega arith

pub returns-then-count-gt-MAX_VALUE_LEN-clause-none : goal.returns-then-count-gt-MAX_VALUE_LEN-clause-none
returns-then-count-gt-MAX_VALUE_LEN-clause-none c v bytes len e =
    let count : length c.args.text.now ≡ 2 * length v = ap length e ∙ length-encode_with lower_digits v in
    omega arith

pub loop-i-init : goal.loop-i-init
loop-i-init c = read_none c.args.text.now

pub loop-i-preserved : goal.loop-i-preserved
loop-i-preserved c =
    read_more c.args.text.now c.loop-i.i (omega arith) c.loop-i.bytes c.loop-i.worst c.number_of-high.result c.number_of-low.result (omega arith) c.loop-i.invariant
    (record { is = c.number_of-high.ensures.is; all = c.number_of-high.ensures.all })
    (record { is = c.number_of-low.ensures.is; all = c.number_of-low.ensures.all })

pub returns-clause-lawful : goal.returns-clause-lawful
returns-clause-lawful c = (
  subst IsBytes (sym c.of_padded.ensures) (bytes_take _ c.loop-i.bytes c.loop-i.invariant.lawful),
  omega (arith, ap length c.of_padded.ensures, length-take c.loop-i.i c.loop-i.bytes),
)
