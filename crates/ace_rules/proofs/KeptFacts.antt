-- What is known where all this is kept of some run: sizes, and that ever more instructions have left the memory stage.
use Rattle.std.proofs.Common.{◌≡◌, ◌≤◌, ◌<◌, ◌-◌, zero, suc, ℕ, List, [], ◌∷◌, Some, length, slice_get, arith, refl, sym, ap, subst, ◌∙◌}
use Rattle.std.specs.Prelude.{slice_index_or}
use Rattle.bit_field.specs.Shapes.{IsShape, slots as slot_count}
use Rattle.line_life.specs.Lives.{Lives}
use Rattle.need_pass.specs.Tables.{Needs}
use Rattle.run_record.specs.Run.{RecordedRun}
use Rattle.slot_history.specs.Histories.{Histories, held_in}
use Rattle.tag_dist.specs.Tables.{Tables}
use Rattle.ace_law.specs.Moments.{retired}
use Rattle.ace_rules.specs.Analyses.{IsAnalysis, IsSomeAnalysis}
use Rattle.ace_rules.specs.Asked.{IsLineHeld, retired_by}
use Rattle.ace_rules.specs.Notes.{Story, moment}
use Rattle.ace_rules.specs.Stays.{AreInOrder, IsBeforePast, no_cycle}
use Rattle.ace_rules.specs.declared.note.Note.{Note}
use Rattle.ace_rules.proofs.HeldLines.{held-below, held-in}
use Rattle.ace_rules.proofs.LineDataClass.{get-within}
use Rattle.ace_rules.proofs.Retiring.{retired-rises}
use Rattle.ace_rules.proofs.Unneeded.{counted, retired-is}

pub note-at : (notes : List Note) (t : ℕ) (d : Note) → t < length notes → slice_get notes t ≡ Some (slice_index_or notes t d)
note-at [] t d l = absurd (omega (arith, l))
note-at (x ∷ notes) zero d l = refl
note-at (x ∷ notes) (suc t) d l = note-at notes t d (omega (arith, l))

-- where in the cycle before it no more instructions have left the memory stage, none have in the cycles before that
pub before-bound : (notes : List Note) → AreInOrder notes → (instruction bound : ℕ) (last : Note) → slice_get notes (bound - 1) ≡ Some last
    → retired_by last ≤ instruction → IsBeforePast notes (Some instruction) bound
before-bound notes order instruction bound last at low t note below get =
    let inside = get-within notes (bound - 1) last at in
    let rises = order.rising t (bound - 1) note (omega (arith, below)) inside in
    let here = note-at notes t note (omega (arith, below, inside)) in
    let there = note-at notes (bound - 1) note inside in
    let e : slice_index_or notes t note ≡ note = cc in
    let f : slice_index_or notes (bound - 1) note ≡ last = cc in
    let a = ap retired_by e in
    let b = ap retired_by f in
    omega (arith, rises, a, b, low)

module _ (story : Story) (table : Needs) (notes : List Note) (words : List ℕ) (quiet : ℕ) (life : Lives) (tags : Tables) (slots : Histories)
    (kept : IsAnalysis story table notes words quiet life tags slots) where
  left-by : (t : ℕ) (d : Note) → t < length notes → retired_by (slice_index_or notes t d) ≡ retired (moment story t)
  left-by t d l =
      retired-is (moment story t) table (slice_index_or notes t d) (kept.noted.each t (slice_index_or notes t d) (note-at notes t d l))

  pub in-order : AreInOrder notes
  in-order = record {
    few = let count = kept.noted.cycles in let short = kept.told.short in omega (arith, count, short);
    rising = λ i j d le l.
        let here = left-by i d (omega (arith, le, l)) in
        let there = left-by j d l in
        let rises = retired-rises story i j le in
        omega (arith, here, there, rises);
  }

-- as the code has it
module _ (r : RecordedRun) (table : Needs) (notes : List Note) (quiet : ℕ) (life : Lives) (tags : Tables) (slots : Histories)
    (some : IsSomeAnalysis r table notes quiet life tags slots) where
  pub kept-order : AreInOrder notes
  kept-order = in-order some.story table notes some.words quiet life tags slots some.kept

  pub kept-length : length notes ≡ r.cycles
  kept-length = some.kept.noted.cycles ∙ ap (λ (r : RecordedRun). r.cycles) some.record_is

  pub kept-number : (t : ℕ) → t < r.cycles → t < no_cycle
  kept-number t below =
      let few : length notes < no_cycle = kept-order.few in let count = kept-length in omega (arith, few, count, below)

  pub kept-counted : (t : ℕ) (note : Note) → t < r.cycles → slice_get notes t ≡ Some note → retired_by note ≤ table.count
  kept-counted t note below at =
      counted (moment some.story t) table note some.kept.told (subst (λ (r : RecordedRun). t < r.cycles) (sym some.record_is) below)
      (some.kept.noted.each t note at)

  pub kept-shape : IsShape r.shape
  kept-shape = subst (λ (r : RecordedRun). IsShape r.shape) some.record_is some.kept.told.recorded.fits

  pub life-shape : life.shape ≡ r.shape
  life-shape = some.kept.lives.shape ∙ ap (λ (r : RecordedRun). r.shape) some.record_is

  pub life-cycles : life.cycles ≡ r.cycles
  life-cycles = some.kept.lives.cycles ∙ ap (λ (r : RecordedRun). r.cycles) some.record_is

  pub tags-shape : tags.shape ≡ r.shape
  tags-shape = some.kept.lines.shape ∙ ap (λ (r : RecordedRun). r.shape) some.record_is

  pub slots-shape : slots.shape ≡ r.shape
  slots-shape = some.kept.held.shape ∙ ap (λ (r : RecordedRun). r.shape) some.record_is

  pub kept-line : (l t : ℕ) → l < slot_count r.shape → t < r.cycles → IsLineHeld (held_in slots l t)
  kept-line l t in_cache below =
      let within = subst (λ (r : RecordedRun). t < r.cycles) (sym some.record_is) below in
      let slot = subst (λ (r : RecordedRun). l < slot_count r.shape) (sym some.record_is) in_cache in
      held-below (moment some.story t) table some.kept.told within l (held_in slots l t) slot
      (held-in (moment some.story t) table some.kept.told within slots some.kept.held l slot)
