pub mod Answers
pub use Rattle.run_record.specs.Run
