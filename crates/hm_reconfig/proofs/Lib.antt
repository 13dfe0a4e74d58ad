mod GroupLemmas
mod MarkLemmas
