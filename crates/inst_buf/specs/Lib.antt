pub mod Buffer
pub mod BufferBits
pub mod Entry
pub mod EntryBits
