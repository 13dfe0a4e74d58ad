pub mod Frames
pub mod LinkCalls
pub mod Links
pub mod Wires
