pub mod Seen
pub mod NetFields
pub mod ClientsAt
pub mod ClientFields
pub mod ObserverFields
