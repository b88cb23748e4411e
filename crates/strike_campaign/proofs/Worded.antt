-- The text of a campaign, line by line.
use Rattle.std.proofs.Common.{◌≡◌, ℕ, [], ◌∷◌, ◌++◌, append_assoc, refl, codes, decimal}
use Rattle.std.proofs.lemmas.List.{append-nil}
use Rattle.avf_report.specs.Texts.{line_of, text_of}
use Rattle.strike_campaign.specs.CampaignTexts.{campaign_lines, campaign_text_of}
use Rattle.strike_campaign.specs.declared.outcome.Cells.{Cells}

pub campaign_parts : (strikes : ℕ) (cells : Cells)
    → (((((line_of (codes "strikes" ∷ decimal strikes ∷ [])
    ++ line_of (codes "unace-same" ∷ decimal cells.unace_same ∷ []))
    ++ line_of (codes "unace-differs" ∷ decimal cells.unace_differs ∷ []))
    ++ line_of (codes "unace-noend" ∷ decimal cells.unace_noend ∷ []))
    ++ line_of (codes "ace-same" ∷ decimal cells.ace_same ∷ []))
    ++ line_of (codes "ace-differs" ∷ decimal cells.ace_differs ∷ []))
    ++ line_of (codes "ace-noend" ∷ decimal cells.ace_noend ∷ [])
    ≡ campaign_text_of strikes cells
unfolding campaign_lines text_of
campaign_parts strikes cells = simp (append_assoc, append-nil) refl
