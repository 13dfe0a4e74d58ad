mod Bounds
mod Quorums
mod Reached
