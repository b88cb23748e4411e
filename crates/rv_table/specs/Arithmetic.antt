-- What the operations compute of two 32-bit operands, as the RISC-V specification has it.
use Rattle.std.specs.Prelude.{ℕ, ℤ, pos, ◌+◌, ◌-◌, ◌*◌, ◌*ℤ◌, ◌/◌, ◌%◌, ◌^◌, ◌==◌, nat_lt, if◌then◌else◌, bit_and, bit_or, bit_xor, int_div, int_rem}
use Rattle.std.specs.Int.{cast_signed, cast_unsigned, w32, w64}
use Rattle.rv_table.specs.declared.operation.AluKind.{AluKind}
use Rattle.rv_table.specs.declared.operation.AluKind.TheVariants.{Add, Sub, Sll, Slt, Sltu, Xor, Srl, Sra, Or, And}
use Rattle.rv_table.specs.declared.operation.AluKind.TheVariants.{Mul, Mulh, Mulhsu, Mulhu, Div, Divu, Rem, Remu}

-- the sum and the difference modulo 2^32
abbrev pub sum32 : ℕ → ℕ → ℕ
sum32 a b = (a + b) % 2 ^ 32

abbrev pub difference32 : ℕ → ℕ → ℕ
difference32 a b = (a + (2 ^ 32 - b)) % 2 ^ 32

-- a 32-bit number as the signed one (two's complement)
abbrev pub signed : ℕ → ℤ
signed a = cast_signed w32 a

-- the low and the high word of a 64-bit product
abbrev pub high_word : ℤ → ℕ
high_word product = cast_unsigned w64 product / 2 ^ 32

-- a shifted right by n below 32, with copies of its sign above
abbrev pub shift_signed : ℕ → ℕ → ℕ
shift_signed a n = if nat_lt a (2 ^ 31) then a / 2 ^ n else a / 2 ^ n + (2 ^ 32 - 2 ^ (32 - n))

-- the order of signed numbers: with the sign bit turned over it is that of unsigned ones
abbrev pub signed_order : ℕ → ℕ
signed_order a = (a + 2 ^ 31) % 2 ^ 32

unfoldable pub alu : AluKind → ℕ → ℕ → ℕ
alu Add a b = sum32 a b
alu Sub a b = difference32 a b
alu Sll a b = a * 2 ^ (b % 32) % 2 ^ 32
alu Slt a b = if nat_lt (signed_order a) (signed_order b) then 1 else 0
alu Sltu a b = if nat_lt a b then 1 else 0
alu Xor a b = bit_xor a b
alu Srl a b = a / 2 ^ (b % 32)
alu Sra a b = shift_signed a (b % 32)
alu Or a b = bit_or a b
alu And a b = bit_and a b
alu Mul a b = a * b % 2 ^ 32
alu Mulh a b = high_word (signed a *ℤ signed b)
alu Mulhsu a b = high_word (signed a *ℤ pos b)
alu Mulhu a b = a * b / 2 ^ 32
-- by zero: all ones, and the remainder is a; signed division rounds toward zero, and the least number by -1 is itself
alu Div a b = if b == 0 then 2 ^ 32 - 1 else cast_unsigned w32 (int_div (signed a) (signed b))
alu Divu a b = if b == 0 then 2 ^ 32 - 1 else a / b
alu Rem a b = if b == 0 then a else cast_unsigned w32 (int_rem (signed a) (signed b))
alu Remu a b = if b == 0 then a else a % b
