pub mod Answered
pub mod Asked
pub mod Distances
pub mod Noted
