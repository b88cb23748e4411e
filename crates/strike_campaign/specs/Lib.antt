pub mod CampaignTexts
pub mod Campaigns
pub mod Cells
pub mod Places
pub mod Strikes
