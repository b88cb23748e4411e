use Rattle.avf_tool.proofs.CampaignTold.{campaign_told}
use Rattle.avf_tool.proofs.campaigns.campaign_of.Goals as goal

pub returns : goal.returns
returns g c =
    campaign_told c.args.analysis.now c.args.asked.now c.in_ok-cells.cells c.campaign_bytes.result c.requires.program c.requires.traced
    c.in_ok-cells.ensures.cells c.campaign_bytes.ensures
