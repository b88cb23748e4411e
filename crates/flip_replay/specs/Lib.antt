pub mod Comparison
pub mod Lasting
