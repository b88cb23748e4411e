use Rattle.std.proofs.Common.{◌≡◌, ℕ}
use Rattle.ace_rules.specs.PipelineTests.{becomes_next}
use Rattle.ace_rules.specs.RuleMasks.{is_place_of, is_set}
use Rattle.ace_rules.proofs.tally_decoded.next_bits.Given as goal

abbrev pub invariant-loop-place : goal.invariant-loop-place
invariant-loop-place l = record { tried : (k : ℕ) → is_set l.mask k ≡ is_place_of (becomes_next l.note) l.first l.place k }
