pub mod State
pub mod Fields
pub mod StandsFor
pub mod Faults
