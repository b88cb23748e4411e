use Rattle.std.proofs.Common.{◌≡◌, ◌+◌, ℕ}
use Rattle.ace_rules.specs.RuleMasks.{is_met_harmless, is_place_of, is_set}
use Rattle.ace_rules.proofs.tally_target.met_bits.Given as goal

abbrev pub invariant-loop-place : goal.invariant-loop-place
invariant-loop-place l = record {
  tried : (k : ℕ) → is_set l.mask k ≡ is_place_of (λ j. is_met_harmless l.image l.needs l.note l.slot (4 + j)) 4 l.place k;
}
