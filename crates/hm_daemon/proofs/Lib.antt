mod AskLemmas
mod NodeLemmas
mod PostLemmas
mod ServeLemmas
mod StartLemmas
mod WordTexts
