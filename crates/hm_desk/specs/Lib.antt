pub mod Deeds
pub mod Devices
pub mod Steps
pub mod Ends
