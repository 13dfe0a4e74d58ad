mod Laws
mod Sources
mod HoldsLater
mod Switches
mod Switching
mod Clients
mod CoreGrows
mod SameMessages
mod CoreEvents
mod CoreOpens
mod Changes
mod StepParts
mod Declaring
pub mod Members
mod EpochSteps
