pub mod AccessLaw
pub mod Accesses
pub mod Architecture
pub mod Effects
pub mod Instruction
pub mod Runs
pub mod Words
pub mod WordsLaw
