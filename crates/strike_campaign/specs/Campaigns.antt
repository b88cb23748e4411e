-- A campaign: what becomes of the strikes of a seed on a recorded run.
use Rattle.std.specs.Prelude.{◌≡◌, ℕ, List, length, Some, slice_get, true}
use Rattle.ace_class.specs.declared.class.Class.TheVariants.{UnAce}
use Rattle.ace_class.specs.declared.class.Rule.{Rule}
use Rattle.run_record.specs.Verdict.{IsVerdict, flipped}
use Rattle.ace_law.specs.Classes.{IsClass}
use Rattle.ace_rules.specs.Notes.{Story, moment}
use Rattle.strike_campaign.specs.Cells.{all_in, cells_of, is_same}
use Rattle.strike_campaign.specs.Strikes.{IsStrike}
use Rattle.strike_campaign.specs.declared.outcome.Cells.{Cells}
use Rattle.strike_campaign.specs.declared.outcome.Outcome.{Outcome}

-- the class is that of the struck bit in its cycle, and the verdict that on the run with this bit flipped before this cycle
pub record IsJudged (story : Story) (outcome : Outcome) : Type 0 where
  pub class : IsClass outcome.class (moment story outcome.strike.cycle) outcome.strike.place
  pub verdict : IsVerdict story.r outcome.strike.cycle (flipped story.r outcome.strike.cycle outcome.strike.place) outcome.verdict

-- it is what becomes of strike k, from 0 on, of the seed
pub record IsOutcome (story : Story) (seed k : ℕ) (outcome : Outcome) : Type 0 where
  pub strike : IsStrike story.r seed k outcome.strike
  pub judged : IsJudged story outcome

-- they are what becomes of so many strikes of the seed, in order
pub record AreOutcomes (story : Story) (seed strikes : ℕ) (outcomes : List Outcome) : Type 0 where
  pub number : length outcomes ≡ strikes
  pub each : (k : ℕ) (outcome : Outcome) → slice_get outcomes k ≡ Some outcome → IsOutcome story seed k outcome

-- where the bit is un-ACE, the flipped run has the recorded output and end
abbrev pub IsHarmless : Outcome → Type 0
IsHarmless outcome = (rule : Rule) → outcome.class ≡ UnAce rule → is_same outcome.verdict ≡ true

-- Each cell is the number of strikes with that class and that verdict, and each strike is in one of them. None is in the two cells of an
-- un-ACE bit whose flip is seen.
pub record IsCampaign (story : Story) (seed strikes : ℕ) (cells : Cells) : Type 0 where
  pub outcomes : List Outcome
  pub are : AreOutcomes story seed strikes outcomes
  pub counted : cells ≡ cells_of outcomes
  pub all : all_in cells ≡ strikes
  pub no_difference : cells.unace_differs ≡ 0
  pub no_endless : cells.unace_noend ≡ 0
