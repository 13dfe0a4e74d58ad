mod Votings
mod Alike
mod Entering
mod Steps
mod News
