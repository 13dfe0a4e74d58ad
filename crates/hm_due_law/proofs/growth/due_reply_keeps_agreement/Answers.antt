use Rattle.hm_due_law.proofs.Agreeing.{agree_reply}
use Rattle.hm_due_law.proofs.growth.due_reply_keeps_agreement.Goals as goal

pub returns : goal.returns
returns c = λ h k op reply g n d. agree_reply h k op reply g d.invoked n d
