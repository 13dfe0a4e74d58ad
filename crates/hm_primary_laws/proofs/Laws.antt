-- The laws that the proofs of a primary-backup group rest on, as the law functions hand them in.
use Rattle.hm_due_law.specs.Laws.{WholeListAnswerIsDue, AnswerAheadIsDue, AdmittedWriteKeepsTidy}
use Rattle.hm_core_laws.specs.Laws.{QuietStepDeclaresNothing, DeclaredAnswersAreSent, DeclaredAnswersAreTrue, TruePacketStaysTrue, SourcedListStaysSourced, ListGoesOnHolding, FrontHolds, QuietEventKeepsEpochs, StepKeepsEpochs, RemovalBeginsEpoch}

-- for each step
pub record StepLaws : Type 0 where
  pub whole : WholeListAnswerIsDue
  pub ahead : AnswerAheadIsDue
  pub write_tidy : AdmittedWriteKeepsTidy
  pub rests : QuietStepDeclaresNothing
  pub answers_sent : DeclaredAnswersAreSent
  pub answers_true : DeclaredAnswersAreTrue
  pub stays : TruePacketStaysTrue
  pub sourced : SourcedListStaysSourced
  pub front : FrontHolds

-- for what holds after an event
pub record EventLaws : Type 0 where
  pub lists : ListGoesOnHolding
  pub quiet : QuietEventKeepsEpochs
  pub step : StepKeepsEpochs
  pub removal : RemovalBeginsEpoch
