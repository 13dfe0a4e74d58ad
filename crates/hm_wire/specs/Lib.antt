pub mod Grammar
pub mod Packets
pub mod Reading
pub mod Exact
