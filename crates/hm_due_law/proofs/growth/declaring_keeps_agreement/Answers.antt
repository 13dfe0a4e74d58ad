use Rattle.hm_due_law.proofs.Agreeing.{agree_declare}
use Rattle.hm_due_law.proofs.growth.declaring_keeps_agreement.Goals as goal

pub returns : goal.returns
returns c = λ h k new g tidy all. agree_declare h k new g tidy all
