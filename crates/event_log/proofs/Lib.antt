pub mod Checked
pub mod Logs
pub mod Searches
