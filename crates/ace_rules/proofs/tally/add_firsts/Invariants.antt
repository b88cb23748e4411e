use Rattle.std.proofs.Common.{◌≡◌, ℕ, ◌+◌, ◌^◌, ◌<◌, ◌==◌, length, drop}
use Rattle.std.specs.Prelude.{slice_index}
use Rattle.ace_class.specs.Classes.{class_number}
use Rattle.ace_rules.specs.RuleMasks.{first_of}
use Rattle.ace_rules.specs.Sums.{count_below}
use Rattle.ace_rules.proofs.FirstMasks.{left_count}
use Rattle.ace_rules.proofs.tally.add_firsts.Given as goal

abbrev pub invariant-loop-m : goal.invariant-loop-m
invariant-loop-m l = record {
  left : l.left < 2 ^ l.bits;
  full : length l.row ≡ length l.fn.row;
  counts : (n : ℕ) → slice_index l.row n + left_count l.bits l.left (drop l.m-index l.masks) n
      ≡ slice_index l.fn.row n + count_below l.bits (λ k. class_number (first_of l.masks k) == n);
}
