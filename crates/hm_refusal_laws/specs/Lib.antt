pub mod Outcomes
pub mod Slotting
