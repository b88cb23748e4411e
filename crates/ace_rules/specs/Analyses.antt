-- What is kept of a run for the classes of its bits.
use Rattle.std.specs.Prelude.{◌≡◌, ◌≤◌, ◌<◌, ℕ, List}
use Rattle.bit_field.specs.Shapes.{IsPlaceIn}
use Rattle.bit_field.specs.declared.places.Place.{Place}
use Rattle.ace_class.specs.declared.class.Class.{Class}
use Rattle.ace_class.specs.declared.class.Class.TheVariants.{UnAce}
use Rattle.ace_class.specs.declared.class.Rule.{Rule}
use Rattle.need_pass.specs.Tables.{Needs}
use Rattle.line_life.specs.Lives.{IsLifeOf, Lives}
use Rattle.tag_dist.specs.Tables.{IsTableOf, Tables}
use Rattle.slot_history.specs.HeldBefore.{IsSlotTable}
use Rattle.slot_history.specs.Histories.{Histories}
use Rattle.run_record.specs.Run.{RecordedRun}
use Rattle.run_record.specs.Verdict.{HasSame, flipped}
use Rattle.ace_law.specs.Classes.{IsClass}
use Rattle.ace_law.specs.Moments.{IsTold}
use Rattle.ace_rules.specs.Notes.{AreNotes, Story, moment}
use Rattle.ace_rules.specs.declared.note.Note.{Note}

-- the table of needs is that of the run, the notes are those of its cycles and instructions, and the tables of lifetimes, of look-ups and
-- of line slots are those of its events
pub record IsAnalysis (story : Story) (table : Needs) (notes : List Note) (words : List ℕ) (quiet : ℕ) (life : Lives) (tags : Tables)
    (slots : Histories) : Type 0 where
  pub told : IsTold story.r story.run table
  pub noted : AreNotes story table notes words quiet
  pub lives : IsLifeOf story.r.events story.r.shape story.r.cycles life
  pub lines : IsTableOf story.r.events story.run.entries story.r.shape tags
  pub held : IsSlotTable story.r.events story.r.shape slots

-- it is kept of some run whose record this is
pub record IsSomeAnalysis (r : RecordedRun) (table : Needs) (notes : List Note) (quiet : ℕ) (life : Lives) (tags : Tables)
    (slots : Histories) : Type 0 where
  pub story : Story
  pub words : List ℕ
  pub record_is : story.r ≡ r
  pub kept : IsAnalysis story table notes words quiet life tags slots

-- the bit at a place has one class from one cycle up to before another
pub record HasOneClass (story : Story) (place : Place) (from until : ℕ) : Type 0 where
  pub class : Class
  pub is : (t : ℕ) → from ≤ t → t < until → IsClass class (moment story t) place

-- what is un-ACE is harmless: with the bit flipped the run has the recorded output and end
abbrev pub UnAceIsHarmlessIn : Story → Type 0
UnAceIsHarmlessIn story =
    (place : Place) (cycle : ℕ) (rule : Rule) → IsPlaceIn story.r.shape place → cycle < story.r.cycles
    → IsClass (UnAce rule) (moment story cycle) place → HasSame story.r cycle (flipped story.r cycle place)
