pub mod BestSets
pub mod Sizes
pub mod Worded
