pub mod BufferLaws
pub mod EntryLaws
pub mod Packed
pub mod Youngest
