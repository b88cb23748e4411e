-- How many bits of a group are ACE, and how long they keep their classes.
use Rattle.std.specs.Prelude.{◌≡◌, ◌≤◌, ◌<◌, ◌+◌, ℕ, Bool, true, false}
use Rattle.bit_field.specs.declared.places.Structure.{Structure}
use Rattle.ace_class.specs.declared.class.Class.{Class}
use Rattle.ace_class.specs.declared.class.Class.TheVariants.{Ace, UnAce}
use Rattle.ace_law.specs.Classes.{IsClass}
use Rattle.ace_rules.specs.Notes.{Story, moment}
use Rattle.ace_rules.specs.Sums.{count_below}
use Rattle.ace_rules.specs.declared.ace_groups.Aces.{Aces}

abbrev pub is_ace : Class → Bool
is_ace Ace = true
is_ace (UnAce rule) = false

-- Each of so many bits of a structure, from bit `first` on, has one class from a cycle up to before another, and so many of them are ACE.
pub record AreAces (story : Story) (s : Structure) (first bits from : ℕ) (aces : Aces) : Type 0 where
  pub classes : ℕ → Class
  pub are : (k t : ℕ) → k < bits → from ≤ t → t < aces.until
      → IsClass (classes k) (moment story t) (record { structure = s; bit = first + k })
  pub count : aces.bits ≡ count_below bits (λ k. is_ace (classes k))
