use Rattle.std.proofs.Common.{ap}
use Rattle.hm_outside.proofs.Copied.{fills_from}
use Rattle.hm_outside.specs.Ends.{Supply}
use Rattle.hm_outside.proofs.memory.MemorySourceSource.take.Goals as goal

pub returns-clause-bytes : goal.returns-clause-bytes
returns-clause-bytes c =
    let front = fills_from _ _ _ _ _ _ _ c.deref-2.ensures.value (ap (λ (s : Supply). s.left) c.self.view_is) c.copy_front-count.ensures.count c.copy_front-count.ensures.copied in
    (front.consumed, front.end)
