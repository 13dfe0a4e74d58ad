use Rattle.hm_due_law.proofs.Agreeing.{agree_invoke}
use Rattle.hm_due_law.proofs.growth.invocation_keeps_agreement.Goals as goal

pub returns : goal.returns
returns c = λ h k op want g n. agree_invoke h k op want g n
