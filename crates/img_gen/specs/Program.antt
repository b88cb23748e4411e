-- The program of a number and a size. A loop of `size` random instructions runs four times; then the low byte of a0 is put, and is the
-- status of the program's end. The body computes with the eight registers a0 to a7, and loads and stores in 2 KiB of the data part.
use Rattle.std.specs.Prelude.{ℕ, ◌+◌, ◌-◌, ◌*◌, ◌/◌, ◌%◌, ◌^◌, ◌==◌, ◌||◌, Bool, nat_lt, if◌then◌else◌, List, [], ◌∷◌, ◌++◌, map}
use Rattle.std.specs.List.{flat_map}
use Rattle.rand_core.specs.Pcg32Seed.{pcg32_seed}
use Rattle.rand_core.specs.Steps.{first_words}
use Rattle.rand_pcg.specs.Pcg.{pcg32, pcg32_of_seed}
use Rattle.elf_write.specs.Code.{op_bytes}
use Rattle.elf_write.specs.File.{file}
use Rattle.elf_write.specs.declared.layout.TheConstants.{TEXT_BASE, DATA_BASE}
use Rattle.rv_table.specs.Operations.{of_registers}
use Rattle.rv_table.specs.Words.{sign_extended}
use Rattle.rv_table.specs.declared.op.Op.{Op}
use Rattle.rv_table.specs.declared.codes.TheConstants.{LUI, JAL, BEQ, LW, LBU, SB, SW, ADDI, XORI, ECALL}
use Rattle.rv_table.specs.declared.codes.TheConstants.{ADD, SUB, SLL, SLT, XOR, SRL, OR, AND, MUL, DIVU}
use Rattle.img_gen.specs.declared.program.TheConstants.{ZERO, S0, S1, A0, A7, ROUNDS, PUT, EXIT}
use Rattle.img_gen.specs.declared.generator.TheConstants.{MAX_SIZE}

abbrev pub immediate : ℕ → ℕ → ℕ → ℕ → Op
immediate code rd rs1 imm = record { code = code; rd = rd; rs1 = rs1; rs2 = 0; imm = imm }

-- a store, with its address in rs1, or a branch
abbrev pub two_registers : ℕ → ℕ → ℕ → ℕ → Op
two_registers code rs1 rs2 imm = record { code = code; rd = 0; rs1 = rs1; rs2 = rs2; imm = imm }

-- The body

-- one of the registers a0 to a7, by three bits of a random word
abbrev pub register_at : ℕ → ℕ → ℕ
register_at random low = A0 + random / 2 ^ low % 8

-- the offset of a byte and of a word in 2 KiB, by the low 11 bits of a number
abbrev pub byte_offset : ℕ → ℕ
byte_offset n = n % 2 ^ 11

abbrev pub word_offset : ℕ → ℕ
word_offset n = n % 2 ^ 11 / 4 * 4

-- the instruction of a kind, with two operands and a number of 12 bits
unfoldable pub by_kind : ℕ → ℕ → ℕ → ℕ → ℕ → Op
by_kind kind rd rs1 rs2 n =
    if kind == 0 then of_registers ADD rd rs1 rs2 else (
    if kind == 1 then of_registers SUB rd rs1 rs2 else (
    if kind == 2 then of_registers XOR rd rs1 rs2 else (
    if kind == 3 then of_registers OR rd rs1 rs2 else (
    if kind == 4 then of_registers AND rd rs1 rs2 else (
    if kind == 5 then of_registers SLL rd rs1 rs2 else (
    if kind == 6 then of_registers SRL rd rs1 rs2 else (
    if kind == 7 then of_registers MUL rd rs1 rs2 else (
    if kind == 8 then immediate ADDI rd rs1 (sign_extended 12 n) else (
    if kind == 9 then immediate XORI rd rs1 (sign_extended 12 n) else (
    if kind == 10 then of_registers DIVU rd rs1 rs2 else (
    if kind == 11 then of_registers SLT rd rs1 rs2 else (
    if kind == 12 then immediate LW rd S0 (word_offset n) else (
    if kind == 13 then two_registers SW S0 rs2 (word_offset n) else (
    if kind == 14 then immediate LBU rd S0 (byte_offset n) else
    two_registers SB S0 rs2 (byte_offset n)))))))))))))))

-- the instruction of a random word: its kind in bits 3 to 0, rd, rs1 and rs2 in three bits each from bit 4 on, the number in bits 31 to 20
unfoldable pub body_op : ℕ → Op
body_op random = by_kind (random % 2 ^ 4) (register_at random 4) (register_at random 7) (register_at random 10) (random / 2 ^ 20)

-- the random words of a number: PCG32 (XSH RR 64/32), seeded by it
unfoldable pub random_words : ℕ → ℕ → List ℕ
random_words number count = first_words pcg32 count (pcg32_of_seed (pcg32_seed 16 number))

-- The program

-- s0 is where the data part begins, s1 the number of rounds
abbrev pub start : List Op
start = immediate LUI S0 ZERO DATA_BASE ∷ immediate ADDI S1 ZERO ROUNDS ∷ []

-- so many bytes back, as a 32-bit offset
abbrev pub back : ℕ → ℕ
back bytes = 2 ^ 32 - bytes

-- one round less; the last goes on behind the jump back to the body; the low byte of a0 is put, and the program ends with it
abbrev pub finish : ℕ → List Op
finish size =
    immediate ADDI S1 S1 (back 1)
    ∷ two_registers BEQ S1 ZERO 8
    ∷ immediate JAL ZERO ZERO (back (4 * (size + 2)))
    ∷ immediate ADDI A7 ZERO PUT
    ∷ of_registers ECALL 0 A7 A0
    ∷ immediate ADDI A7 ZERO EXIT
    ∷ of_registers ECALL 0 A7 A0
    ∷ []

unfoldable pub program : ℕ → ℕ → List Op
program number size = start ++ map body_op (random_words number size) ++ finish size

-- the file of a number and a size
unfoldable pub generated : ℕ → ℕ → List ℕ
generated number size = file TEXT_BASE (flat_map op_bytes (program number size)) []

-- a size that no program is made for
unfoldable pub is_bad_size : ℕ → Bool
is_bad_size size = (size == 0) || nat_lt MAX_SIZE size
