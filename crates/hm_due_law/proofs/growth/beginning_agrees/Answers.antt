use Rattle.hm_due_law.proofs.Agreeing.{agree_nil}
use Rattle.hm_due_law.proofs.growth.beginning_agrees.Goals as goal

pub returns : goal.returns
returns c = agree_nil
