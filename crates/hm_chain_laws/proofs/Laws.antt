-- The laws that the proofs of a chain rest on, as the law functions hand them in.
use Rattle.hm_due_law.specs.Laws.{WholeListAnswerIsDue, AnswerAheadIsDue, AdmittedWriteKeepsTidy}
use Rattle.hm_core_laws.specs.Laws.{QuietStepIsSound, QuietStepDeclaresNothing, DeclaringStepIsSound, DeclaredAnswersAreSent, DeclaredAnswersAreTrue, SourcedListStaysSourced, FrontHolds, QuietEventKeepsEpochs, StepKeepsEpochs, RemovalBeginsEpoch}

-- for each step
pub record StepLaws : Type 0 where
  pub whole : WholeListAnswerIsDue
  pub ahead : AnswerAheadIsDue
  pub write_tidy : AdmittedWriteKeepsTidy
  pub quiet : QuietStepIsSound
  pub rests : QuietStepDeclaresNothing
  pub declaring : DeclaringStepIsSound
  pub answers_sent : DeclaredAnswersAreSent
  pub answers_true : DeclaredAnswersAreTrue
  pub sourced : SourcedListStaysSourced
  pub front : FrontHolds

-- for the epochs after an event
pub record EpochLaws : Type 0 where
  pub quiet : QuietEventKeepsEpochs
  pub step : StepKeepsEpochs
  pub removal : RemovalBeginsEpoch
