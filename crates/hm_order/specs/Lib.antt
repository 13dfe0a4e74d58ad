pub mod Marks
pub mod Order
pub mod Legal
pub mod Held
pub mod Places
