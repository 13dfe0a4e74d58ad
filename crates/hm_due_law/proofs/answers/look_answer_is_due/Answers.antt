use Rattle.hm_due_law.proofs.ReadAnswers.{look_due}
use Rattle.hm_due_law.proofs.answers.look_answer_is_due.Goals as goal

pub returns : goal.returns
returns c = λ h k a i look r first p there reads. look_due h k a i look r first p there reads
