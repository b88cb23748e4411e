mod Ending
pub mod Keeping
pub mod Programs
