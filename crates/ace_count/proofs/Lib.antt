mod BitClasses
mod Rows
pub mod OneCount
