use Rattle.std.proofs.Common.{ap}
use Rattle.hm_schedule.specs.Lines.{Reading}
use Rattle.hm_schedule.proofs.BufferParts.{rest_some}
use Rattle.hm_schedule.proofs.lines.LineReader.rest.Goals as goal

pub returns-else-self : goal.returns-else-self
returns-else-self c = rest_some _ _ _ _ (ap (λ (r : Reading). r.ahead) c.self.view_is) c.self.invariant.ahead c.if-self.false c.self.invariant.size c.self.invariant.within
