pub mod DecodedBits
pub mod ExecutedBits
pub mod Execution
pub mod Forwarding
pub mod LatchedActions
pub mod Latches
pub mod ResultBits
