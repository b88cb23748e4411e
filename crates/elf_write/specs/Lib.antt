pub mod Code
pub mod File
pub mod Loading
