use Rattle.hm_due_law.proofs.Tidies.{operation_once}
use Rattle.hm_due_law.proofs.tidy.operation_stands_once.Goals as goal

pub returns : goal.returns
returns c = λ log i j d e h a b o. operation_once log i j d e h a b o
