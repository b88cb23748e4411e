pub mod Indices
pub mod OneCampaign
pub mod Tallied
pub mod Words
pub mod Worded
