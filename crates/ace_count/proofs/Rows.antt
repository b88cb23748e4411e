-- The rows of the structures.
use Rattle.std.proofs.Common.{◌≡◌, ℕ, ◌+◌, ◌<◌, ◌≤◌, List, [], length, refl, sym, ap, ◌∙◌, inl, inr, arith}
use Rattle.std.specs.Prelude.{slice_index_or, slice_set}
use Rattle.std.proofs.lemmas.Bool.{cases_eq}
use Rattle.std.proofs.lemmas.List.{get_or-set_same, get_or-set_other}
use Rattle.bit_field.specs.Shapes.{bits_in}
use Rattle.bit_field.specs.declared.places.Structure.{Structure}
use Rattle.bit_field.specs.declared.shapes.Shape.{Shape}
use Rattle.ace_class.specs.Counts.{Counted, IsCounted, place_of, structures}
use Rattle.ace_class.proofs.Places.{at_place, place_most}
use Rattle.run_record.specs.Run.{IsRecord}
use Rattle.ace_rules.specs.Notes.{Story}
use Rattle.ace_count.specs.RunCounts.{AreCounts, HasClass, IsRowOf}
use Rattle.ace_rules.proofs.Tallies.{tally-all}

-- the row of the next structure
pub rows-next : (story : Story) (rows : List (List ℕ)) (place : ℕ) (here d : Structure) (row : List ℕ) → place < length rows
    → here ≡ slice_index_or structures place d → ((s : Structure) → place_of s < place → IsRowOf story s (slice_index_or rows (place_of s) []))
    → IsRowOf story here row → (s : Structure) → place_of s < place + 1 → IsRowOf story s (slice_index_or (slice_set rows place row) (place_of s) [])
rows-next story rows place here d row within is so_far next s l =
    elim (cases_eq (place_of s) place) [
      | inl e ↦
          let same : here ≡ s = is ∙ ap (λ (i : ℕ). slice_index_or structures i d) (sym e) ∙ at_place s d in
          rw (e, get_or-set_same rows place row [] within, ← same) next
      | inr n ↦
          let other : slice_index_or (slice_set rows place row) (place_of s) [] ≡ slice_index_or rows (place_of s) [] =
          get_or-set_other rows place (place_of s) row [] n in
          rw other (so_far s (omega arith))
    ]

-- the rows of all structures
pub all-rows : (story : Story) (shape : Shape) (cycles : ℕ) (rows : List (List ℕ)) (place : ℕ) → 16 ≤ place → shape ≡ story.r.shape
    → cycles ≡ story.r.cycles → length rows ≡ length structures
    → ((s : Structure) → place_of s < place → IsRowOf story s (slice_index_or rows (place_of s) []))
    → AreCounts story (record { shape = shape; cycles = cycles; rows = rows })
all-rows story shape cycles rows place end same_shape same_cycles all each = record {
  shape = same_shape;
  cycles = same_cycles;
  all = all;
  rows = λ s. each s (let m = place_most s in omega arith);
}

-- each pair is counted in one class
pub is-counted : (story : Story) (counted : Counted) → AreCounts story counted → IsRecord story.r → story.r.cycles ≤ 1000000 → IsCounted counted
is-counted story counted are recorded short = record {
  shape = rw are.shape recorded.fits;
  some = omega (arith, are.cycles, recorded.cycles);
  most = omega (arith, are.cycles, short);
  rows = are.all;
  pairs = λ s. tally-all (HasClass story s) (bits_in s story.r.shape) story.r.cycles _ (are.rows s) ∙ rw (are.shape, are.cycles) refl;
}
