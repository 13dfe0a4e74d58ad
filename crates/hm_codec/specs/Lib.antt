pub mod Writing
pub mod Placed
pub mod Rows
pub mod Spelled
