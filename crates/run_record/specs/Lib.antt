pub mod Journals
pub mod Run
pub mod Times
pub mod Verdict
pub mod Within
