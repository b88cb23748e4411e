pub mod Classes
pub mod Counts
