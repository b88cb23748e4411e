-- The map of a run: a line for each largest interval of cycles in which a bit is un-ACE by one rule.
use Rattle.std.specs.Prelude.{◌≡◌, ◌⊎◌, ℕ, ◌+◌, ◌<◌, ◌≤◌, true, List, [], ◌∷◌, Option, None, Some, ⊤}
use Rattle.bit_field.specs.Shapes.{IsPlaceIn}
use Rattle.bit_field.specs.declared.places.Place.{Place}
use Rattle.ace_class.specs.Classes.{number_of}
use Rattle.ace_class.specs.declared.class.Class.TheVariants.{UnAce}
use Rattle.ace_class.specs.declared.class.Rule.{Rule}
use Rattle.ace_law.specs.Classes.{IsClass}
use Rattle.ace_rules.specs.Notes.{Story, moment}
use Rattle.class_map.specs.Lines.{comes_after, follows}
use Rattle.class_map.specs.declared.map_line.MapLine.{MapLine}

-- the bit at the place is un-ACE in the cycle by the rule of this number
pub record IsUnAce (story : Story) (place : Place) (t number : ℕ) : Type 0 where
  pub rule : Rule
  pub numbered : number_of rule ≡ number
  pub class : IsClass (UnAce rule) (moment story t) place

-- what a line says is so in each of its cycles
abbrev pub IsRight : Story → MapLine → Type 0
IsRight story line = (t : ℕ) → line.from ≤ t → t < line.to → IsUnAce story line.place t line.rule

-- A line of the map: the bit isn't un-ACE by this rule in the cycle before, nor in the one behind.
pub record IsMapLine (story : Story) (line : MapLine) : Type 0 where
  pub place : IsPlaceIn story.r.shape line.place
  pub some : line.from < line.to
  pub within : line.to ≤ story.r.cycles
  pub right : IsRight story line
  pub begins : (t : ℕ) → t + 1 ≡ line.from → IsUnAce story line.place t line.rule → ⊥
  pub ends : line.to < story.r.cycles → IsUnAce story line.place line.to line.rule → ⊥

-- The first line that follows the line before; without one, the first line.
pub record IsNextLine (story : Story) (before : Option MapLine) (line : MapLine) : Type 0 where
  pub is : IsMapLine story line
  pub behind : follows before line ≡ true
  pub first : (other : MapLine) → IsMapLine story other → follows before other ≡ true → (other ≡ line) ⊎ (comes_after line other ≡ true)

-- what comes next behind the line before
abbrev pub IsNext : Story → Option MapLine → Option MapLine → Type 0
IsNext story before None = (other : MapLine) → IsMapLine story other → follows before other ≡ true → ⊥
IsNext story before (Some line) = IsNextLine story before line

-- these lines come next behind the line before, one after the other
abbrev pub AreNext : Story → Option MapLine → List MapLine → Type 0
AreNext story before [] = ⊤
AreNext story before (line ∷ lines) = IsNextLine story before line × AreNext story (Some line) lines

-- and no others come
abbrev pub AreAllNext : Story → Option MapLine → List MapLine → Type 0
AreAllNext story before [] = IsNext story before None
AreAllNext story before (line ∷ lines) = IsNextLine story before line × AreAllNext story (Some line) lines

-- the first lines of the map of a run
abbrev pub AreFirst : Story → List MapLine → Type 0
AreFirst story lines = AreNext story None lines

-- all lines of the map of a run, in order
abbrev pub AreAll : Story → List MapLine → Type 0
AreAll story lines = AreAllNext story None lines
