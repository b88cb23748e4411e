-- What is kept of a run tells of each of its cycles what the classes of bits ask.
use Rattle.std.proofs.Common.{◌≡◌, ◌<◌, ℕ, true, List, refl, sym, ap, ◌∙◌, subst, arith}
use Rattle.std.specs.Prelude.{Some, nat_le, slice_get, ◌↔◌}
use Rattle.std.proofs.lemmas.Bool.Decides.{nat_tests}
use Rattle.bit_field.specs.declared.places.Place.{Place}
use Rattle.bit_field.specs.declared.places.Structure.{Structure}
use Rattle.bit_field.specs.declared.shapes.Shape.{Shape}
use Rattle.ace_class.specs.declared.class.Class.{Class}
use Rattle.need_pass.specs.Tables.{Needs}
use Rattle.line_life.specs.Lives.{Lives}
use Rattle.tag_dist.specs.Tables.{Tables}
use Rattle.slot_history.specs.Histories.{Histories}
use Rattle.run_record.specs.Run.{RecordedRun}
use Rattle.ace_law.specs.Classes.{IsClass}
use Rattle.ace_law.specs.Moments.{IsQuiet, Moment}
use Rattle.ace_rules.specs.Analyses.{IsAnalysis}
use Rattle.ace_rules.specs.LineData.{AreDataTables, AreSomeDataTables}
use Rattle.ace_rules.specs.Lines.{AreTablesOf, IsSomeLineMoment}
use Rattle.ace_rules.specs.Notes.{AreWordMasks, IsKnown, IsSomeMoment, Story, moment}
use Rattle.ace_rules.specs.declared.note.Note.{Note}

-- a class of a bit by its structure
pub at-structure : (class : Class) (a : Moment) (p : Place) (s : Structure) → p.structure ≡ s
    → IsClass class a (record { structure = s; bit = p.bit }) → IsClass class a p
at-structure class a p s e h = subst (λ s. IsClass class a (record { structure = s; bit = p.bit })) (sym e) h

module _ (story : Story) (table : Needs) (notes : List Note) (words : List ℕ) (quiet : ℕ) (life : Lives) (tags : Tables) (slots : Histories)
    (kept : IsAnalysis story table notes words quiet life tags slots) (r : RecordedRun) (is : story.r ≡ r) where
  within : (t : ℕ) → t < r.cycles → t < story.r.cycles
  within t below = subst (λ (r : RecordedRun). t < r.cycles) (sym is) below

  pub quiet-by : (t : ℕ) → t < r.cycles → (nat_le quiet t ≡ true) ↔ IsQuiet (moment story t)
  quiet-by t below =
      let silent = kept.noted.silent t (within t below) in
      (λ h. silent.0 (grind (arith, nat_tests)), λ h. let l = silent.1 h in grind (arith, nat_tests))

  pub known : (t : ℕ) (note : Note) → t < r.cycles → slice_get notes t ≡ Some note → IsKnown (moment story t) table note (nat_le quiet t)
  known t note below at = record {
    told = kept.told;
    below = within t below;
    noted = kept.noted.each t note at;
    silent = quiet-by t below;
  }

  pub some-moment : (t : ℕ) (note : Note) → t < r.cycles → slice_get notes t ≡ Some note → IsSomeMoment table note (nat_le quiet t)
  some-moment t note below at = record { a = moment story t; known = known t note below at }

  pub masks : (t : ℕ) → AreWordMasks (moment story t) table words
  masks t = record {
    instructions = kept.noted.instructions;
    each = λ i mask at. let m = kept.noted.word i mask at in
        record { arch = m.arch; image = m.image; stands = m.stands; exact = m.exact; all = m.all };
  }

  pub tables : (t : ℕ) (shape : Shape) → shape ≡ r.shape → AreTablesOf (moment story t) shape tags slots t
  tables t shape e = record {
    shape = e ∙ ap (λ (r : RecordedRun). r.shape) (sym is);
    tags = kept.lines;
    slots = kept.held;
    cycle = refl;
  }

  pub some-line : (t : ℕ) (note : Note) (shape : Shape) → t < r.cycles → slice_get notes t ≡ Some note → shape ≡ r.shape
      → IsSomeLineMoment note (nat_le quiet t) shape tags slots t
  some-line t note shape below at e = record { a = moment story t; table = table; known = known t note below at; tables = tables t shape e }

  pub data-tables : (shape : Shape) → shape ≡ r.shape → AreDataTables story table notes quiet shape life slots
  data-tables shape e = record {
    told = kept.told;
    cycles = kept.noted.cycles;
    each = kept.noted.each;
    silent = kept.noted.silent;
    shape = e ∙ ap (λ (r : RecordedRun). r.shape) (sym is);
    life = kept.lives;
    slots = kept.held;
  }

  pub some-data : (shape : Shape) → shape ≡ r.shape → AreSomeDataTables table notes quiet shape life slots
  some-data shape e = record { story = story; tables = data-tables shape e }
