-- The record of a run within a budget of cycles is its record, and no other run has one.
use Rattle.std.proofs.Common.{◌≡◌, ℕ, ◌≤◌, false, Option, None, Some, refl, ap, subst, arith}
use Rattle.std.specs.Prelude.{is_some, option_and_then, option_map}
use Rattle.avf_base.specs.declared.end.End.{End}
use Rattle.bit_field.specs.Shapes.{IsShape}
use Rattle.bit_field.specs.declared.shapes.Shape.{Shape}
use Rattle.elf_load.specs.Image.{LoadedImage}
use Rattle.wb_cache.specs.Lookup.{first_below}
use Rattle.wb_cache.proofs.Find.{IsFirst, first_below-is, first_below-nothing, first_below-some}
use Rattle.cyc_machine.specs.Cycle.{end_in}
use Rattle.cyc_machine.specs.Run.{IsRunning, state_at}
use Rattle.run_record.specs.Run.{IsRecord, RecordedRun}
use Rattle.run_record.specs.Within.{IsRecordOf, ends_at, record_to, record_within}

-- a run that goes on has none
pub none_within : (image : LoadedImage) (shape : Shape) (n : ℕ) → IsRunning image shape n → record_within image shape n ≡ None
unfolding record_within
none_within image shape n running =
    let none : first_below n (ends_at image shape) ≡ None = first_below-nothing n (ends_at image shape) (λ k l. ap is_some (running k l)) in
    rw none refl

-- a record is that of its cycles
is_record_to : (r : RecordedRun) (is : IsRecord r) → record_to r.image r.shape is.last r.end ≡ r
is_record_to r is = rw (← is.cycles, ← is.instructions, ← is.output, ← is.events, ← is.issues, ← is.clocks) refl

-- it is the one within each budget that has its cycles
pub record_is_within : (r : RecordedRun) (n : ℕ) → IsRecord r → r.cycles ≤ n → record_within r.image r.shape n ≡ Some r
unfolding record_within
record_is_within r n is few =
    let is_first : IsFirst n (ends_at r.image r.shape) is.last = record {
      below = omega (arith, is.cycles);
      passes = ap is_some is.ends;
      first = λ k l. ap is_some (is.running k l);
    } in
    let first : first_below n (ends_at r.image r.shape) ≡ Some is.last = first_below-is n is.last (ends_at r.image r.shape) is_first in
    rw first (rw is.ends (ap Some (is_record_to r is)))

not_ended : (o : Option End) → is_some o ≡ false → o ≡ None
not_ended None e = refl
not_ended (Some end) e = absurd cc

-- the record of cycles of which the last is the first that brings an end
is_record : (image : LoadedImage) (shape : Shape) (n last : ℕ) (end : End) → IsShape shape → IsFirst n (ends_at image shape) last
    → end_in (state_at image shape last) ≡ Some end
    → IsRecordOf image shape n (record_to image shape last end)
is_record image shape n last end fits first ends = record {
  image_is = refl;
  shape_is = refl;
  within = omega (arith, first.below);
  is_record = record {
    fits = fits;
    last = last;
    cycles = refl;
    running = λ u l. not_ended (end_in (state_at image shape u)) (first.first u l);
    ends = ends;
    instructions = refl;
    output = refl;
    events = refl;
    issues = refl;
    clocks = refl;
  };
}

by_end : (image : LoadedImage) (shape : Shape) (n last : ℕ) (r : RecordedRun) (end : Option End) → IsShape shape → IsFirst n (ends_at image shape) last
    → end_in (state_at image shape last) ≡ end
    → option_map (record_to image shape last) end ≡ Some r → IsRecordOf image shape n r
by_end image shape n last r None fits first ends e = absurd cc
by_end image shape n last r (Some end) fits first ends e =
    let same : record_to image shape last end ≡ r = cc in subst (IsRecordOf image shape n) same (is_record image shape n last end fits first ends)

by_last : (image : LoadedImage) (shape : Shape) (n : ℕ) (r : RecordedRun) (last : Option ℕ) → IsShape shape → first_below n (ends_at image shape) ≡ last
    → option_and_then (λ t. option_map (record_to image shape t) (end_in (state_at image shape t))) last ≡ Some r → IsRecordOf image shape n r
by_last image shape n r None fits first e = absurd cc
by_last image shape n r (Some last) fits first e =
    by_end image shape n last r (end_in (state_at image shape last)) fits (first_below-some n last (ends_at image shape) first) refl e

pub within_is_record : (image : LoadedImage) (shape : Shape) (n : ℕ) (r : RecordedRun) → IsShape shape → record_within image shape n ≡ Some r
    → IsRecordOf image shape n r
unfolding record_within
within_is_record image shape n r fits e = by_last image shape n r (first_below n (ends_at image shape)) fits refl e
