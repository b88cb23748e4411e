-- The bits of EX/MEM.
use Rattle.std.specs.Prelude.{ℕ, not, Option}
use Rattle.bit_field.specs.Layouts as layouts
use Rattle.bit_field.specs.Layouts.{Layout, flip, number_of}
use Rattle.pipe_latch.specs.Latches.{ExecutedLatch}
use Rattle.pipe_latch.specs.declared.ex_mem.ExMemField.{ExMemField}
use Rattle.pipe_latch.specs.declared.ex_mem.ExMemField.TheVariants.{Valid, Kind, Rd, X, Y, Cause}
use Rattle.pipe_latch.specs.declared.ex_mem.TheConstants.{EX_MEM_FIELDS}

-- the number of bits of each field, in bit order
abbrev pub width : ExMemField → ℕ
width Valid = 1
width Kind = 5
width Rd = 5
width X = 32
width Y = 32
width Cause = 4

-- the number that a field holds
abbrev pub value : ExecutedLatch → ExMemField → ℕ
value m Valid = number_of m.valid
value m Kind = m.kind
value m Rd = m.rd
value m X = m.x
value m Y = m.y
value m Cause = m.cause

-- the latch with bit i of a field flipped
abbrev pub flip_in : ExecutedLatch → ExMemField → ℕ → ExecutedLatch
flip_in m Valid i = record m { valid = not m.valid }
flip_in m Kind i = record m { kind = flip m.kind i }
flip_in m Rd i = record m { rd = flip m.rd i }
flip_in m X i = record m { x = flip m.x i }
flip_in m Y i = record m { y = flip m.y i }
flip_in m Cause i = record m { cause = flip m.cause i }

abbrev pub layout : Layout ExecutedLatch ExMemField
layout = record { fields = EX_MEM_FIELDS; width = width; value = value; flip_in = flip_in }

-- each field is below its width
abbrev pub IsFit : ExecutedLatch → Type 0
IsFit = layouts.IsFit layout

-- the field that holds bit k, and which of the field's own bits that is
abbrev pub field_of : ℕ → Option (ExMemField × ℕ)
field_of = layouts.field_of layout

-- bit k, 0 or 1
abbrev pub bit_of : ExecutedLatch → ℕ → ℕ
bit_of = layouts.bit_of layout

-- the latch with bit k flipped
abbrev pub flipped : ExecutedLatch → ℕ → ExecutedLatch
flipped = layouts.flipped layout
