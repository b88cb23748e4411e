use Rattle.std.proofs.Common.{◌≡◌, ◌≤◌, ◌<◌, ◌+◌, ◌*◌, ℕ, length}
use Rattle.std.specs.Prelude.{slice_index}
use Rattle.ace_rules.proofs.tally_cycle.add_row.Given as goal

abbrev pub invariant-loop-class : goal.invariant-loop-class
invariant-loop-class l = record {
  full : length l.row ≡ length l.fn.row;
  done : (n : ℕ) → n < l.class → slice_index l.row n ≡ slice_index l.fn.row n + l.times * slice_index l.more n;
  left : (n : ℕ) → l.class ≤ n → slice_index l.row n ≡ slice_index l.fn.row n;
}
