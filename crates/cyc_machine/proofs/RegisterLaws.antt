-- The laws of a flip for the program counters and for the register file.
use Rattle.std.proofs.Common.{◌^◌, ◌<◌, arith}
use Rattle.std.specs.Int.{bit_at}
use Rattle.bit_field.specs.Laws.{FlipLaws}
use Rattle.bit_field.specs.Layouts.{flip}
use Rattle.bit_field.specs.declared.shapes.TheConstants.{COUNTER_BITS}
use Rattle.bit_field.proofs.Arrays.{laws_of_array, laws_of_number}
use Rattle.cyc_machine.specs.RegisterBits.{IsCounterFit, counter_bit, counter_flipped, IsFileFit, file_bit, file_bit_count, file_flipped}
use Rattle.cyc_machine.specs.declared.registers.TheConstants.{REGISTERS}

pub counter_laws : FlipLaws IsCounterFit (λ _. COUNTER_BITS) counter_bit counter_flipped
counter_laws = laws_of_number COUNTER_BITS

pub file_laws : FlipLaws IsFileFit (λ _. file_bit_count) file_bit file_flipped
file_laws = laws_of_array REGISTERS 32 0 (λ v. v < 2 ^ 32) bit_at flip (omega arith) (laws_of_number 32)
