use Rattle.hm_outside.proofs.Copied.{fills_from}
use Rattle.hm_outside.proofs.sure.SureSourceSource.take.Goals as goal

pub returns-clause-bytes : goal.returns-clause-bytes
returns-clause-bytes c =
    let front = fills_from _ _ _ _ _ _ _ c.deref.ensures.value c.self.view_is c.copy_front-count.ensures.count c.copy_front-count.ensures.copied in
    (front.consumed, front.end)
