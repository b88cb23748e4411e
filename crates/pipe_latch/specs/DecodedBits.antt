-- The bits of ID/EX.
use Rattle.std.specs.Prelude.{ℕ, not, Option}
use Rattle.bit_field.specs.Layouts as layouts
use Rattle.bit_field.specs.Layouts.{Layout, flip, number_of}
use Rattle.pipe_latch.specs.Latches.{DecodedLatch}
use Rattle.pipe_latch.specs.declared.id_ex.IdExField.{IdExField}
use Rattle.pipe_latch.specs.declared.id_ex.IdExField.TheVariants.{Valid, Pc, Op, Rd, Rs1, Rs2, A, B, Imm, Count}
use Rattle.pipe_latch.specs.declared.id_ex.TheConstants.{ID_EX_FIELDS}

-- the number of bits of each field, in bit order
abbrev pub width : IdExField → ℕ
width Valid = 1
width Pc = 30
width Op = 6
width Rd = 5
width Rs1 = 5
width Rs2 = 5
width A = 32
width B = 32
width Imm = 32
width Count = 5

-- the number that a field holds
abbrev pub value : DecodedLatch → IdExField → ℕ
value d Valid = number_of d.valid
value d Pc = d.pc
value d Op = d.op
value d Rd = d.rd
value d Rs1 = d.rs1
value d Rs2 = d.rs2
value d A = d.a
value d B = d.b
value d Imm = d.imm
value d Count = d.count

-- the latch with bit i of a field flipped
abbrev pub flip_in : DecodedLatch → IdExField → ℕ → DecodedLatch
flip_in d Valid i = record d { valid = not d.valid }
flip_in d Pc i = record d { pc = flip d.pc i }
flip_in d Op i = record d { op = flip d.op i }
flip_in d Rd i = record d { rd = flip d.rd i }
flip_in d Rs1 i = record d { rs1 = flip d.rs1 i }
flip_in d Rs2 i = record d { rs2 = flip d.rs2 i }
flip_in d A i = record d { a = flip d.a i }
flip_in d B i = record d { b = flip d.b i }
flip_in d Imm i = record d { imm = flip d.imm i }
flip_in d Count i = record d { count = flip d.count i }

abbrev pub layout : Layout DecodedLatch IdExField
layout = record { fields = ID_EX_FIELDS; width = width; value = value; flip_in = flip_in }

-- each field is below its width
abbrev pub IsFit : DecodedLatch → Type 0
IsFit = layouts.IsFit layout

-- the field that holds bit k, and which of the field's own bits that is
abbrev pub field_of : ℕ → Option (IdExField × ℕ)
field_of = layouts.field_of layout

-- bit k, 0 or 1
abbrev pub bit_of : DecodedLatch → ℕ → ℕ
bit_of = layouts.bit_of layout

-- the latch with bit k flipped
abbrev pub flipped : DecodedLatch → ℕ → DecodedLatch
flipped = layouts.flipped layout
