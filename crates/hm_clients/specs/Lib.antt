pub mod Table
pub mod Cut
pub mod Indexed
