pub mod Few
pub mod Issued
pub mod Noted
pub mod Timed
pub mod Verdicts
pub mod Within
