pub mod Compared
pub mod Course
pub mod Flips
pub mod Follows
pub mod Lasts
