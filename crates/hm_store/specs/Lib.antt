pub mod Log
pub mod Indexed
pub mod Keys
pub mod Chained
