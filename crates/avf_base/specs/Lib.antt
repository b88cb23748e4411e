pub mod Buffers
pub mod Causes
pub mod Entries
pub mod Files
pub mod Fronts
pub mod Moves
pub mod Refusals
pub mod States
