-- What is known of the tables of a run's cache in a cycle of the run.
use Rattle.std.specs.Prelude.{◌≡◌, ℕ, Bool}
use Rattle.bit_field.specs.declared.places.Place.{Place}
use Rattle.bit_field.specs.declared.shapes.Shape.{Shape}
use Rattle.need_pass.specs.Tables.{Needs}
use Rattle.slot_history.specs.HeldBefore.{IsSlotTable}
use Rattle.slot_history.specs.Histories.{Histories}
use Rattle.tag_dist.specs.Tables.{IsTableOf, Tables}
use Rattle.ace_class.specs.declared.class.Class.{Class}
use Rattle.ace_law.specs.Classes.{IsClass}
use Rattle.ace_law.specs.Moments.{Moment}
use Rattle.ace_rules.specs.Notes.{IsKnown}
use Rattle.ace_rules.specs.declared.note.Note.{Note}

-- The tables are those of the run: which lines are accessed and looked up when, and what each line slot holds. The cycle has this number.
pub record AreTablesOf (a : Moment) (cache : Shape) (accesses : Tables) (lines : Histories) (t : ℕ) : Type 0 where
  pub shape : cache ≡ a.r.shape
  pub tags : IsTableOf a.r.events a.run.entries a.r.shape accesses
  pub slots : IsSlotTable a.r.events a.r.shape lines
  pub cycle : a.t ≡ t

pub record IsSomeLineMoment (note : Note) (quiet : Bool) (cache : Shape) (accesses : Tables) (lines : Histories) (t : ℕ) : Type 0 where
  pub a : Moment
  pub table : Needs
  pub known : IsKnown a table note quiet
  pub tables : AreTablesOf a cache accesses lines t

-- this is the class of the bit, whatever run the tables are of
abbrev pub IsLineClass : Class → Note → Bool → Shape → Tables → Histories → ℕ → Place → Type 0
IsLineClass class note quiet cache accesses lines t p =
    (a : Moment) (table : Needs) → IsKnown a table note quiet → AreTablesOf a cache accesses lines t → IsClass class a p
