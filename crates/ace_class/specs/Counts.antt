-- The counts of a run: how many pairs of a bit and a cycle have each class.
use Rattle.std.specs.Prelude.{◌≡◌, ℕ, ◌*◌, ◌/◌, ◌≤◌, ◌==◌, List, [], ◌∷◌, length, sum_by, slice_index, slice_index_or, if◌then◌else◌}
use Rattle.bit_field.specs.Shapes.{IsShape, bits_in}
use Rattle.bit_field.specs.declared.places.Structure.{Structure}
use Rattle.bit_field.specs.declared.places.Structure.TheVariants.{Pc, Npc, Bht, Btb, Ib, IdEx, ExMem, MemWb}
use Rattle.bit_field.specs.declared.places.Structure.TheVariants.{Rf, Sb, Port, CData, CTag, CValid, CDirty, CLru}
use Rattle.bit_field.specs.declared.shapes.Shape.{Shape}
use Rattle.ace_class.specs.Classes.{class_number, classes}
use Rattle.ace_class.specs.declared.class.Class.{Class}
use Rattle.ace_class.specs.declared.class.Class.TheVariants.{Ace}
use Rattle.ace_class.specs.declared.counts.TheConstants.{MILLION, MOST_CYCLES}

-- the structures, in the order of a report
abbrev pub structures : List Structure
structures =
    Pc ∷ Npc ∷ Bht ∷ Btb ∷ Ib ∷ IdEx ∷ ExMem ∷ MemWb
    ∷ Rf ∷ Sb ∷ Port ∷ CData ∷ CTag ∷ CValid ∷ CDirty ∷ CLru ∷ []

-- a structure's place in that order, from 0 on
abbrev pub place_of : Structure → ℕ
place_of Pc = 0
place_of Npc = 1
place_of Bht = 2
place_of Btb = 3
place_of Ib = 4
place_of IdEx = 5
place_of ExMem = 6
place_of MemWb = 7
place_of Rf = 8
place_of Sb = 9
place_of Port = 10
place_of CData = 11
place_of CTag = 12
place_of CValid = 13
place_of CDirty = 14
place_of CLru = 15

pub record Counted : Type 0 where
  pub shape : Shape
  pub cycles : ℕ
  pub rows : List (List ℕ)  -- for each structure, in order, the number of pairs of each class, by its number

-- the counts of a structure
abbrev pub row_of : Counted → Structure → List ℕ
row_of counted s = slice_index_or counted.rows (place_of s) []

-- how many pairs of a bit of the structure and a cycle have the class
abbrev pub count_of : Counted → Structure → Class → ℕ
count_of counted s class = slice_index (row_of counted s) (class_number class)

abbrev pub bits_of : Counted → Structure → ℕ
bits_of counted s = bits_in s counted.shape

-- the pairs of a bit of the structure and a cycle
abbrev pub pairs_of : Counted → Structure → ℕ
pairs_of counted s = bits_of counted s * counted.cycles

-- each pair of a bit and a cycle has one class
pub record IsCounted (counted : Counted) : Type 0 where
  pub shape : IsShape counted.shape
  pub some : 1 ≤ counted.cycles
  pub most : counted.cycles ≤ MOST_CYCLES
  pub rows : length counted.rows ≡ length structures
  pub pairs : (s : Structure) → sum_by (count_of counted s) classes ≡ pairs_of counted s

-- parts per million, rounded down; none of nothing
abbrev pub parts : ℕ → ℕ → ℕ
parts part whole = if whole == 0 then 0 else part * MILLION / whole

abbrev pub ace_of : Counted → Structure → ℕ
ace_of counted s = count_of counted s Ace

-- the ACE pairs among the pairs of a structure, in parts per million
abbrev pub ppm_of : Counted → Structure → ℕ
ppm_of counted s = parts (ace_of counted s) (pairs_of counted s)

-- ---- all structures together

abbrev pub total_bits : Counted → ℕ
total_bits counted = sum_by (bits_of counted) structures

abbrev pub total_of : Counted → Class → ℕ
total_of counted class = sum_by (λ s. count_of counted s class) structures

abbrev pub total_ppm : Counted → ℕ
total_ppm counted = parts (total_of counted Ace) (total_bits counted * counted.cycles)
