-- The bits of a slot of the store buffer.
use Rattle.std.specs.Prelude.{ℕ, Option}
use Rattle.bit_field.specs.Layouts as layouts
use Rattle.bit_field.specs.Layouts.{Layout, flip}
use Rattle.store_buf.specs.Entry.{Entry}
use Rattle.store_buf.specs.declared.pending.PendingField.{PendingField}
use Rattle.store_buf.specs.declared.pending.PendingField.TheVariants.{Mask, Addr, Value}
use Rattle.store_buf.specs.declared.pending.TheConstants.{PENDING_FIELDS}

-- the number of bits of each field, in bit order
abbrev pub width : PendingField → ℕ
width Mask = 4
width Addr = 30
width Value = 32

-- the number that a field holds
abbrev pub value : Entry → PendingField → ℕ
value e Mask = e.mask
value e Addr = e.addr
value e Value = e.value

-- the slot with bit i of a field flipped
abbrev pub flip_in : Entry → PendingField → ℕ → Entry
flip_in e Mask i = record e { mask = flip e.mask i }
flip_in e Addr i = record e { addr = flip e.addr i }
flip_in e Value i = record e { value = flip e.value i }

abbrev pub layout : Layout Entry PendingField
layout = record { fields = PENDING_FIELDS; width = width; value = value; flip_in = flip_in }

-- each field is below its width
abbrev pub IsFit : Entry → Type 0
IsFit = layouts.IsFit layout

-- the field that holds bit k, and which of the field's own bits that is
abbrev pub field_of : ℕ → Option (PendingField × ℕ)
field_of = layouts.field_of layout

-- bit k, 0 or 1
abbrev pub bit_of : Entry → ℕ → ℕ
bit_of = layouts.bit_of layout

-- the slot with bit k flipped
abbrev pub flipped : Entry → ℕ → Entry
flipped = layouts.flipped layout
