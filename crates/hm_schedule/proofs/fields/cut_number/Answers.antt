use Rattle.std.proofs.Common.{◌≡◌, ◌+◌, length, arith}
use Rattle.hm_schedule.proofs.Digits.{some_length, no_length, no_digit, no_number, zero_parts, zero_alone, first_digit, grown, ends_here, too_great}
use Rattle.hm_schedule.proofs.fields.cut_number.Goals as goal
use Rattle.hm_schedule.proofs.fields.cut_number.Goals.{then-is_empty-via-then-is_empty, then-is_empty-via-else-is_empty+then-not-is_digit}

pub returns-then-is_empty-clause-only : goal.returns-then-is_empty-clause-only
returns-then-is_empty-clause-only c n rest few ends same =
    elim c.then-is_empty.branch [
      | then-is_empty-via-then-is_empty w ↦
          let none : length c.args.text.now ≡ 0 = no_length c.args.text.now c.is_empty.result c.is_empty.ensures w.if-is_empty.true in
          no_number c.args.text.now n rest (λ some digit. omega arith) few same
      | then-is_empty-via-else-is_empty+then-not-is_digit w ↦
          no_number c.args.text.now n rest (λ some digit. no_digit _ _ w.is_digit.ensures.1 w.if-not-is_digit.true digit) few same
    ]

pub returns-then-number-eq0-clause-some : goal.returns-then-number-eq0-clause-some
returns-then-number-eq0-clause-some c =
    let digit = c.is_digit.ensures.0 c.if-not-is_digit.false in
    zero_parts c.args.text.now (some_length c.args.text.now c.is_empty.result c.is_empty.ensures c.if-is_empty.false) (omega (arith, c.from-number.ensures, digit))

pub returns-then-number-eq0-clause-only : goal.returns-then-number-eq0-clause-only
returns-then-number-eq0-clause-only c n rest few ends same =
    let digit = c.is_digit.ensures.0 c.if-not-is_digit.false in
    zero_alone c.args.text.now n rest (some_length c.args.text.now c.is_empty.result c.is_empty.ensures c.if-is_empty.false) (omega (arith, c.from-number.ensures, digit)) few same

pub loop-place-init : goal.loop-place-init
loop-place-init c =
    let digit = c.is_digit.ensures.0 c.if-not-is_digit.false in
    record {
      some = omega arith;
      few = omega (arith, digit);
      spelled = first_digit c.args.text.now _ (some_length c.args.text.now c.is_empty.result c.is_empty.ensures c.if-is_empty.false) digit c.from-number.ensures;
    }

pub returns-then-not-is_digit-2-clause-only : goal.returns-then-not-is_digit-2-clause-only
returns-then-not-is_digit-2-clause-only c n rest few ends same =
    let here = c.loop-place.invariant in
    ends_here c.args.text.now c.loop-place.place c.loop-place.number n rest here.few here.spelled (λ l digit. no_digit _ _ c.is_digit-in-loop-place.ensures.1 c.if-not-is_digit-2.true digit) few ends same

pub returns-then-number-from-clause-only : goal.returns-then-number-from-clause-only
returns-then-number-from-clause-only c n rest few ends same =
    let here = c.loop-place.invariant in
    let digit = c.is_digit-in-loop-place.ensures.0 c.if-not-is_digit-2.false in
    let more = grown c.args.text.now c.loop-place.place c.loop-place.number c.from.result (omega arith) here.some here.few here.spelled digit c.from.ensures in
    too_great c.args.text.now (c.loop-place.place + 1) _ n rest (omega arith) (omega (arith, digit)) more few ends same

pub loop-place-preserved : goal.loop-place-preserved
loop-place-preserved c =
    let here = c.loop-place.invariant in
    let digit = c.is_digit-in-loop-place.ensures.0 c.if-not-is_digit-2.false in
    record {
      some = omega arith;
      few = omega arith;
      spelled = grown c.args.text.now c.loop-place.place c.loop-place.number c.from.result (omega arith) here.some here.few here.spelled digit c.from.ensures;
    }

pub returns-clause-only : goal.returns-clause-only
returns-clause-only c n rest few ends same =
    let here = c.loop-place.invariant in
    let some = some_length c.args.text.now c.is_empty.result c.is_empty.ensures c.if-is_empty.false in
    let all : c.loop-place.place ≡ length c.args.text.now = omega (arith, some) in
    ends_here c.args.text.now (length c.args.text.now) c.loop-place.number n rest here.few (rw (← all) here.spelled) (λ l digit. omega arith) few ends same
