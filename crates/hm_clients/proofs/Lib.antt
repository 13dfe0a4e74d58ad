mod Lookups
mod Noted
