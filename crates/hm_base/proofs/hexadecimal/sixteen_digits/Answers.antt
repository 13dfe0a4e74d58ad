use Rattle.std.proofs.Common.{ℕ, ap, arith, ◌+◌, ◌*◌, ◌∙◌, length-set}
use Rattle.std.specs.Prelude.{slice_index, slice_set}
use Rattle.std.proofs.lemmas.Nat.{and_mask}
use Rattle.hex.specs.Hex.{lower_digits}
use Rattle.hex.proofs.Pairs.{encode_step, encode_done}
use Rattle.hm_base.proofs.hexadecimal.sixteen_digits.Goals as goal

pub loop-i-preserved : goal.loop-i-preserved
loop-i-preserved c =
    let byte : ℕ = slice_index c.args.bytes.now c.loop-i.i in
    let whole = c.loop-i.invariant.whole in
    record {
      whole = length-set (slice_set c.loop-i.digits (2 * c.loop-i.i) _) (2 * c.loop-i.i + 1) _ ∙ length-set c.loop-i.digits (2 * c.loop-i.i) _ ∙ whole;
      written = encode_step lower_digits c.args.bytes.now c.loop-i.digits c.loop-i.i _ _ (omega arith) (omega arith) c.digit.ensures (c.digit-in-loop-i.ensures ∙ ap (λ (k : ℕ). slice_index lower_digits k) (and_mask byte 4)) c.loop-i.invariant.written;
    }

pub returns : goal.returns
returns c =
    let whole = c.loop-i.invariant.whole in
    encode_done lower_digits c.args.bytes.now c.loop-i.digits c.loop-i.i (omega arith) (omega arith) c.loop-i.invariant.written
