mod Aparts
mod Paths
mod Rings
