use Rattle.std.proofs.Common.{◌≡◌, ◌≤◌, drop}
use Rattle.rv_asm.specs.Numbers.{bounded, value_behind}
use Rattle.rv_asm.specs.declared.numbers.TheConstants.{NUMBER_BOUND}
use Rattle.rv_asm.proofs.numbers.value_of.Given as goal

-- what is left makes of the number so far what all digits are worth
abbrev pub invariant-loop-digit : goal.invariant-loop-digit
invariant-loop-digit l = record {
  within : l.number ≤ NUMBER_BOUND;
  worth : bounded (value_behind l.base l.number (drop l.digit-index l.digits)) ≡ bounded (value_behind l.base 0 l.digits);
}
