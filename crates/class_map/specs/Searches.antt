-- What the search for the next line gives on its way: in a bit, and in a structure.
use Rattle.std.specs.Prelude.{◌≡◌, ◌⊎◌, ℕ, ◌+◌, ◌<◌, ◌≤◌, true, Option, None, Some}
use Rattle.bit_field.specs.declared.places.Place.{Place}
use Rattle.bit_field.specs.declared.places.Structure.{Structure}
use Rattle.ace_class.specs.declared.class.Class.TheVariants.{Ace}
use Rattle.ace_law.specs.Classes.{IsClass}
use Rattle.ace_rules.specs.Notes.{Story, moment}
use Rattle.class_map.specs.Lines.{comes_after, follows}
use Rattle.class_map.specs.Maps.{IsMapLine, IsUnAce}
use Rattle.class_map.specs.declared.map_line.MapLine.{MapLine}

-- no line of the bit has the cycle and the one before it
abbrev pub IsBorder : Story → Place → ℕ → Type 0
IsBorder story place from = (t number : ℕ) → t + 1 ≡ from → IsUnAce story place t number → from < story.r.cycles
    → IsUnAce story place from number → ⊥

-- the bit is ACE from one cycle up to before another
abbrev pub IsAce : Story → Place → ℕ → ℕ → Type 0
IsAce story place from to = (t : ℕ) → from ≤ t → t < to → IsClass Ace (moment story t) place

pub record IsFirstInBit (story : Story) (place : Place) (from : ℕ) (line : MapLine) : Type 0 where
  pub is : IsMapLine story line
  pub place_is : line.place ≡ place
  pub after : from ≤ line.from
  pub ace : IsAce story place from line.from

abbrev pub IsNextInBit : Story → Place → ℕ → Option MapLine → Type 0
IsNextInBit story place from None = IsAce story place from story.r.cycles
IsNextInBit story place from (Some line) = IsFirstInBit story place from line

-- what comes from a cycle of a bit on is what comes after this
abbrev pub mark : Structure → ℕ → ℕ → MapLine
mark s bit cycle = record { place = record { structure = s; bit = bit }; from = cycle; to = cycle; rule = 0 }

pub record IsFirstOf (story : Story) (before : Option MapLine) (s : Structure) (line : MapLine) : Type 0 where
  pub is : IsMapLine story line
  pub in_it : line.place.structure ≡ s
  pub behind : follows before line ≡ true
  pub first : (other : MapLine) → IsMapLine story other → other.place.structure ≡ s → follows before other ≡ true
      → (other ≡ line) ⊎ (comes_after line other ≡ true)

-- of the lines of a structure, what comes next behind the line before
abbrev pub IsNextOf : Story → Option MapLine → Structure → Option MapLine → Type 0
IsNextOf story before s None = (other : MapLine) → IsMapLine story other → other.place.structure ≡ s → follows before other ≡ true → ⊥
IsNextOf story before s (Some line) = IsFirstOf story before s line
