pub mod EntryLaws
pub mod HistoryLaws
pub mod TargetLaws
