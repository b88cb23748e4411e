-- All bits of a machine in a row: those of its structures one after another, in the order of a report.
use Rattle.std.specs.Prelude.{◌≡◌, ℕ, Some}
use Rattle.bit_field.specs.Layouts.{bits_of, located}
use Rattle.bit_field.specs.Shapes.{bits_in}
use Rattle.bit_field.specs.declared.places.Place.{Place}
use Rattle.bit_field.specs.declared.places.Structure.{Structure}
use Rattle.bit_field.specs.declared.shapes.Shape.{Shape}
use Rattle.ace_class.specs.Counts.{structures}

abbrev pub width_in : Shape → Structure → ℕ
width_in shape s = bits_in s shape

-- how many they are
abbrev pub all_bits : Shape → ℕ
all_bits shape = bits_of (width_in shape) structures

-- this is the place of the bit at an index, from 0 on
abbrev pub IsPlaceAt : Shape → ℕ → Place → Type 0
IsPlaceAt shape index place = located (width_in shape) structures index ≡ Some (place.structure, place.bit)
