use Rattle.std.proofs.Common.{ap, refl}
use Rattle.hm_schedule.specs.Lines.{Reading}
use Rattle.hm_schedule.proofs.BufferParts.{seen_range, cut_at, overlong_line, overlong_part}
use Rattle.hm_schedule.proofs.lines.LineReader.cut.Goals as goal

pub returns-else-len-gt-MAX_LINE_LEN : goal.returns-else-len-gt-MAX_LINE_LEN
returns-else-len-gt-MAX_LINE_LEN c =
    let is = ap (λ (r : Reading). r.ahead) c.self.view_is in
    let cut = cut_at _ _ _ _ _ _ is (seen_range _ _ _ _ _ c.deref.ensures.value is) c.in-Some.ensures.within c.in-Some.ensures.some c.self.invariant.ahead c.self.invariant.size c.self.invariant.within in
    (cut.parts, cut.line, rw cut.size c.if-len-gt-MAX_LINE_LEN.false)

pub returns-then-len-gt-MAX_LINE_LEN : goal.returns-then-len-gt-MAX_LINE_LEN
returns-then-len-gt-MAX_LINE_LEN c =
    let here = seen_range _ _ _ _ _ c.deref.ensures.value (ap (λ (r : Reading). r.ahead) c.self.view_is) in
    (refl, overlong_line _ _ _ _ here c.if-len-gt-MAX_LINE_LEN.true c.in-Some.ensures.within c.in-Some.ensures.some)

pub returns-in-None : goal.returns-in-None
returns-in-None c =
    let here = seen_range _ _ _ _ _ c.deref.ensures.value (ap (λ (r : Reading). r.ahead) c.self.view_is) in
    (refl, overlong_part _ _ here c.if-ahead-gt-MAX_LINE_LEN.true c.in-None.ensures.none)
