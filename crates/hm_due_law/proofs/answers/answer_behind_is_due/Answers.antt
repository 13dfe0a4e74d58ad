use Rattle.hm_due_law.proofs.ReadAnswers.{behind_due}
use Rattle.hm_due_law.proofs.answers.answer_behind_is_due.Goals as goal

pub returns : goal.returns
returns c = λ h k a op o accepted stamp reply r p fresh none e. behind_due h k a op o accepted stamp reply r p fresh none e
