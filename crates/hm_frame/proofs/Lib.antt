mod FrameLemmas
mod LinkCalls
