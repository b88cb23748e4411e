-- What is due of a campaign of strikes on a run.
use Rattle.std.specs.Prelude.{◌≡◌}
use Rattle.run_record.specs.Run.{RecordedRun}
use Rattle.strike_campaign.specs.CampaignTexts.{campaign_text_of}
use Rattle.strike_campaign.specs.Campaigns.{IsCampaign}
use Rattle.strike_campaign.specs.declared.outcome.Cells.{Cells}
use Rattle.avf_tool.specs.Due.{Answer, Text}
use Rattle.avf_tool.specs.ReportAnswers.{story_of}
use Rattle.avf_tool.specs.declared.command.StrikesOfSeed.{StrikesOfSeed}

-- how many strikes there were of each class and verdict; none on an un-ACE bit is seen
abbrev pub campaign_due : RecordedRun → StrikesOfSeed → Answer → Type 0
campaign_due run asked due =
    (cells : Cells) × IsCampaign (story_of run) asked.seed asked.strikes cells × (Text (campaign_text_of asked.strikes cells) ≡ due)
