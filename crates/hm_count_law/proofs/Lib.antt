mod Distinct
mod Ended
mod Standing
mod Lengths
