-- The laws that the proofs of Viewstamped Replication rest on, as the law functions hand them in.
use Rattle.hm_due_law.specs.Laws.{AnswerBehindIsDue, LookAnswerIsDue, AdmittedWriteKeepsTidy, LoggedReadKeepsTidy, RepeatedRequestStands}
use Rattle.hm_core_laws.specs.Laws.{DeclaredAnswersAreSent, DeclaredAnswersAreTrue, TruePacketStaysTrue, SourcedListStaysSourced, FrontHolds}

-- for each step
pub record StepLaws : Type 0 where
  pub behind : AnswerBehindIsDue
  pub look : LookAnswerIsDue
  pub write_tidy : AdmittedWriteKeepsTidy
  pub look_tidy : LoggedReadKeepsTidy
  pub again : RepeatedRequestStands
  pub answers_sent : DeclaredAnswersAreSent
  pub answers_true : DeclaredAnswersAreTrue
  pub stays : TruePacketStaysTrue
  pub sourced : SourcedListStaysSourced
  pub front : FrontHolds
