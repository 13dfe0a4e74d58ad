pub mod Heard
pub mod Posts
pub mod Working
