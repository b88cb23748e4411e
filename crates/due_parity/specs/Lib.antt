pub mod Due
pub mod DueTexts
pub mod Fates
pub mod Notes
pub mod Rows
pub mod Stretches
pub mod StruckCycles
pub mod Touches
