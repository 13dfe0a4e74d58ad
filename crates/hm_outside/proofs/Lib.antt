mod Copied
mod KnownBytes
