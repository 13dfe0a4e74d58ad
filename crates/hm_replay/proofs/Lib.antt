mod PacketLines
mod Progress
mod Complete
mod Items
mod Putting
mod Forming
mod Summing
