use Rattle.hm_due_law.proofs.Due.{prefix_due}
use Rattle.hm_due_law.proofs.answers.prefix_answer_is_due.Goals as goal

pub returns : goal.returns
returns c = λ h k a op o p. prefix_due h k a op o p
