pub mod CodeSizes
pub mod HeaderFields
pub mod Segments
pub mod Accepting
pub mod Loaded
