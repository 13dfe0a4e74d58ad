mod DeclareLemmas
mod ClientLemmas
mod NetLemmas
