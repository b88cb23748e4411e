-- A campaign in words.
use Rattle.std.specs.Prelude.{ℕ, List, [], ◌∷◌, codes, decimal}
use Rattle.avf_report.specs.Texts.{text_of}
use Rattle.strike_campaign.specs.declared.outcome.Cells.{Cells}

-- the lines of a campaign: how many strikes, and each cell by its name
unfoldable pub campaign_lines : ℕ → Cells → List (List (List ℕ))
campaign_lines strikes cells =
    (codes "strikes" ∷ decimal strikes ∷ [])
    ∷ (codes "unace-same" ∷ decimal cells.unace_same ∷ [])
    ∷ (codes "unace-differs" ∷ decimal cells.unace_differs ∷ [])
    ∷ (codes "unace-noend" ∷ decimal cells.unace_noend ∷ [])
    ∷ (codes "ace-same" ∷ decimal cells.ace_same ∷ [])
    ∷ (codes "ace-differs" ∷ decimal cells.ace_differs ∷ [])
    ∷ (codes "ace-noend" ∷ decimal cells.ace_noend ∷ [])
    ∷ []

abbrev pub campaign_text_of : ℕ → Cells → List ℕ
campaign_text_of strikes cells = text_of (campaign_lines strikes cells)
