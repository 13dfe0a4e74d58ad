mod Services
mod Opens
mod Kept
mod Stamps
