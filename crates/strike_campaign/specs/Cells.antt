-- How many strikes there were of each kind.
use Rattle.std.specs.Prelude.{◌+◌, ℕ, Bool, true, false, not, ◌&&◌, List, count_by}
use Rattle.bit_field.specs.Layouts.{number_of}
use Rattle.ace_class.specs.declared.class.Class.{Class}
use Rattle.ace_class.specs.declared.class.Class.TheVariants.{Ace, UnAce}
use Rattle.run_record.specs.declared.verdict.Verdict.{Verdict}
use Rattle.run_record.specs.declared.verdict.Verdict.TheVariants.{Same, Differs, NoEnd}
use Rattle.strike_campaign.specs.declared.outcome.Cells.{Cells}
use Rattle.strike_campaign.specs.declared.outcome.Outcome.{Outcome}

abbrev pub is_un_ace : Class → Bool
is_un_ace Ace = false
is_un_ace (UnAce rule) = true

abbrev pub is_same : Verdict → Bool
is_same (Same cycles) = true
is_same (Differs cycle) = false
is_same (NoEnd cycle) = false

abbrev pub differs : Verdict → Bool
differs (Same cycles) = false
differs (Differs cycle) = true
differs (NoEnd cycle) = false

abbrev pub has_no_end : Verdict → Bool
has_no_end (Same cycles) = false
has_no_end (Differs cycle) = false
has_no_end (NoEnd cycle) = true

-- each cell is the number of outcomes with that class and that verdict
abbrev pub cells_of : List Outcome → Cells
cells_of outcomes = record {
  unace_same = count_by (λ o. is_un_ace o.class && is_same o.verdict) outcomes;
  unace_differs = count_by (λ o. is_un_ace o.class && differs o.verdict) outcomes;
  unace_noend = count_by (λ o. is_un_ace o.class && has_no_end o.verdict) outcomes;
  ace_same = count_by (λ o. not (is_un_ace o.class) && is_same o.verdict) outcomes;
  ace_differs = count_by (λ o. not (is_un_ace o.class) && differs o.verdict) outcomes;
  ace_noend = count_by (λ o. not (is_un_ace o.class) && has_no_end o.verdict) outcomes;
}

-- all strikes in the cells
abbrev pub all_in : Cells → ℕ
all_in cells = cells.unace_same + cells.unace_differs + cells.unace_noend + cells.ace_same + cells.ace_differs + cells.ace_noend

-- one more outcome, on a bit that is un-ACE or on one that is ACE
abbrev pub with_outcome : Bool → Verdict → Cells → Cells
with_outcome un_ace verdict cells = record {
  unace_same = cells.unace_same + number_of (un_ace && is_same verdict);
  unace_differs = cells.unace_differs + number_of (un_ace && differs verdict);
  unace_noend = cells.unace_noend + number_of (un_ace && has_no_end verdict);
  ace_same = cells.ace_same + number_of (not un_ace && is_same verdict);
  ace_differs = cells.ace_differs + number_of (not un_ace && differs verdict);
  ace_noend = cells.ace_noend + number_of (not un_ace && has_no_end verdict);
}
