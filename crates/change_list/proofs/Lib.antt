mod Found
pub mod Grown
