pub mod Memory
pub mod Flush
pub mod Progress
pub mod Lockstep
pub mod Run
pub mod Struck
