use Rattle.std.proofs.Common.{◌≡◌, ◌≤◌, drop}
use Rattle.class_map.specs.Bounds.{bounded}
use Rattle.class_map.specs.Spellings.{worth}
use Rattle.class_map.specs.declared.spelling.TheConstants.{NUMBER_BOUND}
use Rattle.class_map.proofs.spelling.worth.Given as goal

-- what is left makes of the number so far what all digits are worth
abbrev pub invariant-loop-digit : goal.invariant-loop-digit
invariant-loop-digit l = record {
  within : l.number ≤ NUMBER_BOUND;
  worth : bounded (worth l.number (drop l.digit-index l.digits)) ≡ bounded (worth 0 l.digits);
}
