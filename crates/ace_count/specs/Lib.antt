pub mod RunCounts
