use Rattle.hm_due_law.proofs.ReadAnswers.{completion_due}
use Rattle.hm_due_law.proofs.answers.completion_is_due.Goals as goal

pub returns : goal.returns
returns c = λ h k i e r there writes. completion_due h k i e r there writes
