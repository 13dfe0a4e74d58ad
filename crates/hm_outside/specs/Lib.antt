pub mod Adapters
pub mod Calls
pub mod Ends
pub mod Faults
pub mod Puts
