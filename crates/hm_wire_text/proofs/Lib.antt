mod Told
mod PageWords
