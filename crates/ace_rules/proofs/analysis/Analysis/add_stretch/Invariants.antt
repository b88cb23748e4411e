use Rattle.std.proofs.Common.{◌+◌}
use Rattle.ace_rules.specs.Notes.{moment}
use Rattle.ace_rules.specs.Tallies.{HasClass, IsAdded}
use Rattle.ace_rules.proofs.analysis.Analysis.add_stretch.Given as goal

abbrev pub invariant-loop-bit : goal.invariant-loop-bit
invariant-loop-bit l = IsAdded (λ k. HasClass (moment l.self l.cycle) l.structure (l.first + k)) l.bit l.fn.row l.row
