pub mod Table
pub mod Finds
pub mod ByNumber
pub mod Fields
