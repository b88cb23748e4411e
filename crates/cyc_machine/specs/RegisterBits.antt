-- The bits of the program counters and of the register file.
use Rattle.std.specs.Prelude.{ℕ, ◌*◌, ◌^◌, ◌<◌, List}
use Rattle.std.specs.Int.{bit_at}
use Rattle.bit_field.specs.Arrays.{bit_of_array, flip_array, IsArray}
use Rattle.bit_field.specs.Layouts.{flip}
use Rattle.bit_field.specs.declared.shapes.TheConstants.{COUNTER_BITS}
use Rattle.cyc_machine.specs.declared.registers.TheConstants.{REGISTERS}

-- a program counter is a word address
abbrev pub IsCounterFit : ℕ → Type 0
IsCounterFit pc = pc < 2 ^ COUNTER_BITS

abbrev pub counter_bit : ℕ → ℕ → ℕ
counter_bit = bit_at

abbrev pub counter_flipped : ℕ → ℕ → ℕ
counter_flipped = flip

-- bit k of register r is bit 32 (r - 1) + k of the file
abbrev pub IsFileFit : List ℕ → Type 0
IsFileFit = IsArray REGISTERS (λ v. v < 2 ^ 32)

abbrev pub file_bit_count : ℕ
file_bit_count = REGISTERS * 32

abbrev pub file_bit : List ℕ → ℕ → ℕ
file_bit = bit_of_array 32 0 bit_at

abbrev pub file_flipped : List ℕ → ℕ → List ℕ
file_flipped = flip_array 32 0 flip
