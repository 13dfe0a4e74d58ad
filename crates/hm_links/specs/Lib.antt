pub mod Linked
pub mod Ring
