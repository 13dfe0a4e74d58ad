mod Writers
mod Decoded
mod Rows
