mod Others
mod Changes
mod Standings
