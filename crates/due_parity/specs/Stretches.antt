-- Counts in a stretch of cycles, of one bit and of a group of bits with one parity bit. No clause of a public call speaks of it.
use Rattle.std.specs.Prelude.{◌≡◌, ◌≤◌, ◌<◌, ◌-◌, ◌+◌, ◌*◌, ℕ, Bool, not}
use Rattle.bit_field.specs.declared.places.Place.{Place}
use Rattle.bit_field.specs.declared.places.Structure.{Structure}
use Rattle.bit_field.specs.declared.places.Structure.TheVariants.{Rf}
use Rattle.ace_class.specs.declared.class.Class.{Class}
use Rattle.ace_law.specs.Classes.{IsClass}
use Rattle.ace_rules.specs.AceGroups.{is_ace}
use Rattle.ace_rules.specs.Notes.{Story, moment}
use Rattle.ace_rules.specs.Sums.{sum_below}
use Rattle.due_parity.specs.Due.{count_from, is_false_due, is_quiet, is_true_due, place}
use Rattle.due_parity.specs.Fates.{fate}
use Rattle.due_parity.specs.declared.counting.DueCounts.{DueCounts}
use Rattle.due_parity.specs.declared.fate.Fate.TheVariants.{Detected}

abbrev pub no_pairs : DueCounts
no_pairs = record { true_due = 0; false_due = 0; quiet = 0 }

abbrev pub plus : DueCounts → DueCounts → DueCounts
plus a b = record { true_due = a.true_due + b.true_due; false_due = a.false_due + b.false_due; quiet = a.quiet + b.quiet }

-- the pairs that are counted
abbrev pub all_of : DueCounts → ℕ
all_of counts = counts.true_due + counts.false_due + counts.quiet

-- ---- one bit

-- the bit is ACE in so many cycles from one cycle up to before another
pub record HasAce (story : Story) (p : Place) (from until n : ℕ) : Type 0 where
  pub classes : ℕ → Class
  pub are : (t : ℕ) → from ≤ t → t < until → IsClass (classes t) (moment story t) p
  pub count : n ≡ count_from from (until - from) (λ t. is_ace (classes t))

-- each flip from one cycle up to before another is detected, or none is
abbrev pub AreDetected : Story → Place → ℕ → ℕ → Bool → Type 0
AreDetected story p from until detected = (t : ℕ) → from ≤ t → t < until → is_quiet (fate story.r p t) ≡ not detected

-- the counts of the cycles from one up to before another
pub record CountsCycles (story : Story) (p : Place) (from until : ℕ) (counts : DueCounts) : Type 0 where
  pub classes : ℕ → Class
  pub are : (t c : ℕ) → from ≤ t → t < until → fate story.r p t ≡ Detected c → IsClass (classes t) (moment story t) p
  pub true_due : counts.true_due ≡ count_from from (until - from) (λ t. is_true_due (fate story.r p t) (classes t))
  pub false_due : counts.false_due ≡ count_from from (until - from) (λ t. is_false_due (fate story.r p t) (classes t))
  pub quiet : counts.quiet ≡ count_from from (until - from) (λ t. is_quiet (fate story.r p t))

-- ---- the bits of a group

-- how many bits a group has: a register's, or else a byte's
abbrev pub width : Structure → ℕ
width Rf = 32
width _ = 8

-- bit k of a group
abbrev pub bit_in : Structure → ℕ → ℕ → Place
bit_in s group k = place s (width s * group + k)

-- Each of its bits is ACE in some of the cycles from one up to before another, in so many together.
pub record HasAcePairs (story : Story) (s : Structure) (group from until n : ℕ) : Type 0 where
  pub aces : ℕ → ℕ
  pub are : (k : ℕ) → k < width s → HasAce story (bit_in s group k) from until (aces k)
  pub count : n ≡ sum_below (width s) aces

abbrev pub AreGroupDetected : Story → Structure → ℕ → ℕ → ℕ → Bool → Type 0
AreGroupDetected story s group from until detected = (k : ℕ) → k < width s → AreDetected story (bit_in s group k) from until detected

-- the counts of its bits in the cycles from one up to before another
pub record CountsGroup (story : Story) (s : Structure) (group from until : ℕ) (counts : DueCounts) : Type 0 where
  pub parts : ℕ → DueCounts
  pub are : (k : ℕ) → k < width s → CountsCycles story (bit_in s group k) from until (parts k)
  pub true_due : counts.true_due ≡ sum_below (width s) (λ k. (parts k).true_due)
  pub false_due : counts.false_due ≡ sum_below (width s) (λ k. (parts k).false_due)
  pub quiet : counts.quiet ≡ sum_below (width s) (λ k. (parts k).quiet)
