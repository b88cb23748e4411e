use Rattle.std.proofs.Common.{◌≡◌, ◌<◌, length, []}
use Rattle.std.specs.Prelude.{slice_index_or}
use Rattle.bit_field.specs.declared.places.Structure.{Structure}
use Rattle.ace_class.specs.Counts.{place_of, structures}
use Rattle.ace_count.specs.RunCounts.{IsRowOf}
use Rattle.ace_count.proofs.run_counts.count.Given as goal

abbrev pub invariant-loop-place : goal.invariant-loop-place
invariant-loop-place l = record {
  all : length l.rows ≡ length structures;
  rows : (s : Structure) → place_of s < l.place → IsRowOf l.a s (slice_index_or l.rows (place_of s) []);
}
