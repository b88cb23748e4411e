pub mod Cycles
pub mod Events
pub mod Lookups
pub mod Nexts
