use Rattle.hm_due_law.proofs.ReadAnswers.{whole_due}
use Rattle.hm_due_law.proofs.answers.whole_list_answer_is_due.Goals as goal

pub returns : goal.returns
returns c = λ h k op o r read. whole_due h k op o r read
