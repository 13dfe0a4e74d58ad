pub mod CountLaws
pub mod Covered
mod BestVotes
pub mod Puts
pub mod Grows
pub mod Others
pub mod Enter
pub mod Alone
pub mod Longer
pub mod Begin
pub mod Lead
pub mod Reached
mod Quorums
mod Chosen
pub mod Sends
pub mod Ends
mod LogsOf
pub mod Check
