pub mod GrammarLaws
mod Readers
mod PartReaders
mod BodyReaders
mod PacketReader
mod Short
mod Loops
mod Lengths
mod Decoded
mod Unread
