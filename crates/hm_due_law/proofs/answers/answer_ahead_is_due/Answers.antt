use Rattle.hm_due_law.proofs.ReadAnswers.{ahead_due}
use Rattle.hm_due_law.proofs.answers.answer_ahead_is_due.Goals as goal

pub returns : goal.returns
returns c = λ h k l op o accepted stamp reply r read point p tidy e. ahead_due h k l op o accepted stamp reply r read point p tidy e
