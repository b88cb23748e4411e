pub mod BufferLaws
pub mod Packed
pub mod SlotLaws
