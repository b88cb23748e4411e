pub mod Moments
pub mod Agreements
pub mod PipelineRules
pub mod MemoryRules
pub mod Classes
pub mod UnAceLaw
