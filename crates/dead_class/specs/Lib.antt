pub mod Classes
pub mod Law
pub mod Readers
