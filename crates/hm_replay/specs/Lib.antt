pub mod Commands
pub mod Lawful
pub mod Replays
pub mod Statuses
pub mod Summaries
pub mod Written
