use Rattle.std.proofs.Common.{◌*◌}
use Rattle.bit_field.specs.declared.places.Structure.TheVariants.{CData}
use Rattle.ace_count.specs.RunCounts.{HasClass}
use Rattle.ace_rules.specs.Tallies.{IsTally}
use Rattle.ace_count.proofs.bytes.tally_by_bytes.Given as goal

abbrev pub invariant-loop-byte : goal.invariant-loop-byte
invariant-loop-byte l = IsTally (HasClass l.a CData) (8 * l.byte) l.a.r.cycles l.row
