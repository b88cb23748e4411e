-- The bits of MEM/WB.
use Rattle.std.specs.Prelude.{ℕ, Option}
use Rattle.bit_field.specs.Layouts as layouts
use Rattle.bit_field.specs.Layouts.{Layout, flip}
use Rattle.pipe_latch.specs.Latches.{ResultLatch}
use Rattle.pipe_latch.specs.declared.mem_wb.MemWbField.{MemWbField}
use Rattle.pipe_latch.specs.declared.mem_wb.MemWbField.TheVariants.{Rd, Value}
use Rattle.pipe_latch.specs.declared.mem_wb.TheConstants.{MEM_WB_FIELDS}

-- the number of bits of each field, in bit order
abbrev pub width : MemWbField → ℕ
width Rd = 5
width Value = 32

-- the number that a field holds
abbrev pub value : ResultLatch → MemWbField → ℕ
value w Rd = w.rd
value w Value = w.value

-- the latch with bit i of a field flipped
abbrev pub flip_in : ResultLatch → MemWbField → ℕ → ResultLatch
flip_in w Rd i = record w { rd = flip w.rd i }
flip_in w Value i = record w { value = flip w.value i }

abbrev pub layout : Layout ResultLatch MemWbField
layout = record { fields = MEM_WB_FIELDS; width = width; value = value; flip_in = flip_in }

-- each field is below its width
abbrev pub IsFit : ResultLatch → Type 0
IsFit = layouts.IsFit layout

-- the field that holds bit k, and which of the field's own bits that is
abbrev pub field_of : ℕ → Option (MemWbField × ℕ)
field_of = layouts.field_of layout

-- bit k, 0 or 1
abbrev pub bit_of : ResultLatch → ℕ → ℕ
bit_of = layouts.bit_of layout

-- the latch with bit k flipped
abbrev pub flipped : ResultLatch → ℕ → ResultLatch
flipped = layouts.flipped layout
