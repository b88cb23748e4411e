-- The bits of the port's latch.
use Rattle.std.specs.Prelude.{ℕ, not, Option}
use Rattle.bit_field.specs.Layouts as layouts
use Rattle.bit_field.specs.Layouts.{Layout, flip, number_of}
use Rattle.cyc_machine.specs.PortState.{PortState}
use Rattle.cyc_machine.specs.declared.port.PortField.{PortField}
use Rattle.cyc_machine.specs.declared.port.PortField.TheVariants.{Count, Owner}
use Rattle.cyc_machine.specs.declared.port.TheConstants.{PORT_FIELDS}

-- the number of bits of each field, in bit order
abbrev pub width : PortField → ℕ
width Count = 5
width Owner = 1

-- the number that a field holds
abbrev pub value : PortState → PortField → ℕ
value x Count = x.count
value x Owner = number_of x.owner

-- the latch with bit i of a field flipped
abbrev pub flip_in : PortState → PortField → ℕ → PortState
flip_in x Count i = record x { count = flip x.count i }
flip_in x Owner i = record x { owner = not x.owner }

abbrev pub layout : Layout PortState PortField
layout = record { fields = PORT_FIELDS; width = width; value = value; flip_in = flip_in }

-- each field is below its width
abbrev pub IsFit : PortState → Type 0
IsFit = layouts.IsFit layout

-- the field that holds bit k, and which of the field's own bits that is
abbrev pub field_of : ℕ → Option (PortField × ℕ)
field_of = layouts.field_of layout

-- bit k, 0 or 1
abbrev pub bit_of : PortState → ℕ → ℕ
bit_of = layouts.bit_of layout

-- the latch with bit k flipped
abbrev pub flipped : PortState → ℕ → PortState
flipped = layouts.flipped layout
