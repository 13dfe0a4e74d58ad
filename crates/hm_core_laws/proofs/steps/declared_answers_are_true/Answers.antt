use Rattle.hm_core_laws.proofs.StepParts.{answers_hold, answers_sent}
use Rattle.hm_core_laws.proofs.steps.declared_answers_are_true.Goals as goal

pub returns-clause-senders : goal.returns-clause-senders
returns-clause-senders c = λ r from to. answers_sent r from to

pub returns-clause-holds : goal.returns-clause-holds
returns-clause-holds c = λ h k net r from to agree p. answers_hold c.look_answer_is_due.ensures h k net r from to agree p
