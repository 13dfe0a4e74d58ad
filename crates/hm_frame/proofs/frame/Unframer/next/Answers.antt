use Rattle.std.proofs.Common.{◌+◌, drop, ap, refl, ◌∙◌}
use Rattle.hm_frame.specs.Frames.{head_len}
use Rattle.hm_frame.proofs.FrameLemmas.{takes_front, payload_of}
use Rattle.hm_frame.proofs.frame.Unframer.next.Goals as goal

pub returns-in-Ok-clause-answer : goal.returns-in-Ok-clause-answer
returns-in-Ok-clause-answer c =
    let whole = rw c.in-Some.is at c.in_ok-len.ensures in
    takes_front _ _ _ _ _ refl whole.head c.in-Ok.ensures.lawful whole.whole (c.in-Ok.ensures.ok ∙ payload_of _ _ c.in-Some.len (c.as_slice.ensures ∙ c.self.view_is)) (c.advance.ensures.items ∙ ap (drop (head_len + c.in-Some.len)) c.self.view_is)
