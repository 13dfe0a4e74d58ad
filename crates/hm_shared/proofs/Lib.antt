mod StepFacts
mod HistoryLaws
mod WritingLemmas
