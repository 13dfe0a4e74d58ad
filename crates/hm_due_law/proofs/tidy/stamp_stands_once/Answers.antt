use Rattle.hm_due_law.proofs.Tidies.{stamp_once}
use Rattle.hm_due_law.proofs.tidy.stamp_stands_once.Goals as goal

pub returns : goal.returns
returns c = λ log i j d e h a b w v s. stamp_once log i j d e h a b w v s
