pub mod EntryBits
pub mod HistoryBits
pub mod Places
pub mod Tables
pub mod TargetBits
