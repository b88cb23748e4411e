-- Counts of the pairs of a bit and a cycle by what becomes of a flip. A detected pair that is ACE is a true detection. One that is un-ACE
-- is a false one: it stops a run that the flip would not have harmed.
use Rattle.std.specs.Prelude.{◌≡◌, ◌<◌, ◌+◌, ℕ, zero, suc, Bool, true, false}
use Rattle.bit_field.specs.Layouts.{number_of}
use Rattle.bit_field.specs.Shapes.{bits_in}
use Rattle.bit_field.specs.declared.places.Place.{Place}
use Rattle.bit_field.specs.declared.places.Structure.{Structure}
use Rattle.ace_class.specs.declared.class.Class.{Class}
use Rattle.ace_class.specs.declared.class.Class.TheVariants.{Ace, UnAce}
use Rattle.ace_law.specs.Classes.{IsClass}
use Rattle.ace_rules.specs.Notes.{Story, moment}
use Rattle.due_parity.specs.Fates.{fate}
use Rattle.due_parity.specs.declared.counting.DueCounts.{DueCounts}
use Rattle.due_parity.specs.declared.fate.Fate.{Fate}
use Rattle.due_parity.specs.declared.fate.Fate.TheVariants.{Detected, Quiet}

abbrev pub is_true_due : Fate → Class → Bool
is_true_due (Detected c) Ace = true
is_true_due (Detected c) (UnAce rule) = false
is_true_due Quiet class = false

abbrev pub is_false_due : Fate → Class → Bool
is_false_due (Detected c) Ace = false
is_false_due (Detected c) (UnAce rule) = true
is_false_due Quiet class = false

abbrev pub is_quiet : Fate → Bool
is_quiet (Detected c) = false
is_quiet Quiet = true

abbrev pub place : Structure → ℕ → Place
place structure bit = record { structure = structure; bit = bit }

-- f a + f (a + 1) + .., n numbers
unfoldable pub sum_from : ℕ → ℕ → (ℕ → ℕ) → ℕ
sum_from a zero f = 0
sum_from a (suc n) f = f a + sum_from (a + 1) n f

-- how many of n numbers from a on pass a test, and how many pairs of a bit and a cycle do
abbrev pub count_from : ℕ → ℕ → (ℕ → Bool) → ℕ
count_from a n test = sum_from a n (λ t. number_of (test t))

abbrev pub count_pairs : ℕ → ℕ → (ℕ → ℕ → Bool) → ℕ
count_pairs bits cycles test = sum_from 0 bits (λ k. count_from 0 cycles (test k))

-- The counts of the first so many bits of a structure. `classes` has the class of each pair that is detected.
pub record CountsBits (story : Story) (s : Structure) (bits : ℕ) (counts : DueCounts) : Type 0 where
  pub classes : ℕ → ℕ → Class
  pub are : (k t c : ℕ) → k < bits → t < story.r.cycles → fate story.r (place s k) t ≡ Detected c
      → IsClass (classes k t) (moment story t) (place s k)
  pub true_due : counts.true_due ≡ count_pairs bits story.r.cycles (λ k t. is_true_due (fate story.r (place s k) t) (classes k t))
  pub false_due : counts.false_due ≡ count_pairs bits story.r.cycles (λ k t. is_false_due (fate story.r (place s k) t) (classes k t))
  pub quiet : counts.quiet ≡ count_pairs bits story.r.cycles (λ k t. is_quiet (fate story.r (place s k) t))

-- the counts of a structure
abbrev pub IsDue : Story → Structure → DueCounts → Type 0
IsDue story s counts = CountsBits story s (bits_in s story.r.shape) counts
