-- A campaign on an analysed run is what is due of it.
use Rattle.std.proofs.Common.{◌≡◌, ℕ, Result, refl, sym, subst}
use Rattle.std.specs.Prelude.{Vec}
use Rattle.std.specs.declared.alloc.Global.{Global}
use Rattle.avf_base.specs.declared.refusal.Refusal.{Refusal}
use Rattle.rv_isa.specs.Runs.{IsTrace, ProgramTrace}
use Rattle.run_log.specs.Answers.{IsProgram}
use Rattle.ace_rules.specs.Notes.{Story}
use Rattle.strike_campaign.specs.CampaignTexts.{campaign_text_of}
use Rattle.strike_campaign.specs.Campaigns.{IsCampaign}
use Rattle.strike_campaign.specs.declared.outcome.Cells.{Cells}
use Rattle.avf_tool.specs.CampaignAnswers.{campaign_due}
use Rattle.avf_tool.specs.Due.{Text, only}
use Rattle.avf_tool.specs.Programs.{program_of}
use Rattle.avf_tool.specs.Stages.{IsText}
use Rattle.avf_tool.specs.declared.command.StrikesOfSeed.{StrikesOfSeed}
use Rattle.avf_tool.proofs.Chains.{text_due}
use Rattle.avf_tool.proofs.Traces.{program_is}

pub campaign_told : (story : Story) (asked : StrikesOfSeed) (cells : Cells) (told : Result (Vec ℕ Global) Refusal) → IsProgram story.r
    → IsTrace story.r.image story.r.clocks story.run → IsCampaign story asked.seed asked.strikes cells
    → IsText (only (Text (campaign_text_of asked.strikes cells))) told → IsText (campaign_due story.r asked) told
campaign_told story asked cells told program traced is h =
    let same : story.run ≡ program_of story.r = sym (program_is story.r story.run program traced) in
    let here = subst (λ (run : ProgramTrace). IsCampaign (record { r = story.r; run = run }) asked.seed asked.strikes cells) same is in
    text_due (only (Text (campaign_text_of asked.strikes cells))) (campaign_due story.r asked)
    (λ due e. subst (campaign_due story.r asked) e (cells, here, refl)) told h
