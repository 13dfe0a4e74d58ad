mod Complete
mod ShowLemmas
