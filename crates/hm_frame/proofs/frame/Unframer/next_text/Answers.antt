use Rattle.std.proofs.Common.{◌+◌, drop, ap, refl, ◌∙◌}
use Rattle.hm_frame.specs.Frames.{head_len}
use Rattle.hm_frame.proofs.FrameLemmas.{takes_front, payload_of}
use Rattle.hm_frame.proofs.frame.Unframer.next_text.Goals as goal

pub returns-in-Ok-clause-ok : goal.returns-in-Ok-clause-ok
returns-in-Ok-clause-ok c =
    let whole = rw c.in-Ok-Some.field-0-is at c.in-Ok-Some.ensures in
    let told = rw c.in-Ok.is at c.in_ok-write_spelled.ensures.tells in
    let taken = takes_front _ _ _ told.0 c.in-Ok-Some.len refl whole.head told.1 whole.whole (told.2 ∙ payload_of _ _ c.in-Ok-Some.len (c.as_slice.ensures ∙ c.self.view_is)) (c.advance.ensures.items ∙ ap (drop (head_len + c.in-Ok-Some.len)) c.self.view_is) in
    (told.0, taken, told.3)
