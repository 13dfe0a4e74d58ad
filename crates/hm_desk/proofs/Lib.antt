mod Moves
mod Takes
mod Desks
mod Served
