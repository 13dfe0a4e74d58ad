use Rattle.std.proofs.Common.{◌++◌, List, ℕ, ap, arith, ◌∙◌}
use Rattle.hm_base.proofs.HexDigits.{no_digits, more_digits, one_more_byte}
use Rattle.hm_base.proofs.hexadecimal.push_digits.Goals as goal

pub sixteens-init : goal.sixteens-init
sixteens-init c = record { within = omega arith; written = no_digits c.args.out.now.items }

pub sixteens-preserved : goal.sixteens-preserved
sixteens-preserved c = record {
  within = omega arith;
  written =
      c.in_ok-put.ensures.ok ∙ ap (λ (l : List ℕ). c.sixteens.out.items ++ l) c.sixteen_digits.ensures
      ∙ more_digits c.args.out.now.items c.sixteens.out.items c.args.bytes.now _ c.sixteens.from 16 c.copy_from_slice.ensures.after c.sixteens.invariant.written;
}

pub rest-preserved : goal.rest-preserved
rest-preserved c = record {
  within = omega arith;
  written =
      c.in_ok-put-2.ensures.ok ∙ ap (λ (l : List ℕ). c.rest.out.items ++ l) c.byte_digits.ensures
      ∙ one_more_byte c.args.out.now.items c.rest.out.items c.args.bytes.now c.rest.from (omega arith) c.rest.invariant.written;
}
