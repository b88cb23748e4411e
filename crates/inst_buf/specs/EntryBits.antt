-- The bits of a slot of the instruction buffer.
use Rattle.std.specs.Prelude.{ℕ, not, Option}
use Rattle.bit_field.specs.Layouts as layouts
use Rattle.bit_field.specs.Layouts.{Layout, flip, number_of}
use Rattle.inst_buf.specs.Entry.{Entry}
use Rattle.inst_buf.specs.declared.slots.SlotField.{SlotField}
use Rattle.inst_buf.specs.declared.slots.SlotField.TheVariants.{Valid, Fault, Pc, Word}
use Rattle.inst_buf.specs.declared.slots.TheConstants.{SLOT_FIELDS}

-- the number of bits of each field, in bit order
abbrev pub width : SlotField → ℕ
width Valid = 1
width Fault = 1
width Pc = 30
width Word = 32

-- the number that a field holds
abbrev pub value : Entry → SlotField → ℕ
value x Valid = number_of x.valid
value x Fault = number_of x.fault
value x Pc = x.pc
value x Word = x.word

-- the slot with bit i of a field flipped
abbrev pub flip_in : Entry → SlotField → ℕ → Entry
flip_in x Valid i = record x { valid = not x.valid }
flip_in x Fault i = record x { fault = not x.fault }
flip_in x Pc i = record x { pc = flip x.pc i }
flip_in x Word i = record x { word = flip x.word i }

abbrev pub layout : Layout Entry SlotField
layout = record { fields = SLOT_FIELDS; width = width; value = value; flip_in = flip_in }

-- each field is below its width
abbrev pub IsFit : Entry → Type 0
IsFit = layouts.IsFit layout

-- the field that holds bit k, and which of the field's own bits that is
abbrev pub field_of : ℕ → Option (SlotField × ℕ)
field_of = layouts.field_of layout

-- bit k, 0 or 1
abbrev pub bit_of : Entry → ℕ → ℕ
bit_of = layouts.bit_of layout

-- the slot with bit k flipped
abbrev pub flipped : Entry → ℕ → Entry
flipped = layouts.flipped layout
