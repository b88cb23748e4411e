pub mod CleanCycle
pub mod CleanLaw
pub mod CleanRun
pub mod Struck
