pub mod BufferBits
pub mod Covers
pub mod Entry
pub mod EntryBits
pub mod Pending
