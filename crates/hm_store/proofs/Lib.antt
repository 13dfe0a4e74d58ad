mod Chains
mod Ends
mod Parts
mod Popped
mod Writes
