mod Settled
mod FullRuns
mod Ends
mod Shown
