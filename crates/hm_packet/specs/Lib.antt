pub mod Messages
pub mod Routing
pub mod Steps
pub mod Fields
pub mod Texts
