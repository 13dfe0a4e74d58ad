mod Places
mod Lasts
