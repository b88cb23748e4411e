-- Layout: how many bytes each line has, where it stands, and where each label is.
use Rattle.std.specs.Prelude.{ℕ, ◌+◌, Bool, false, not, ◌&&◌, if◌then◌else◌, List, [], ◌∷◌, ◌++◌}
use Rattle.std.specs.Prelude.{bytes_eq, Option, Some, None, Result, Ok, Err, ℤ, pos, neg_ℤ, int_lt, unsigned_abs}
use Rattle.elf_write.specs.declared.layout.TheConstants.{DATA_BASE, DATA_ROOM, TEXT_BASE}
use Rattle.rv_asm.specs.Lines.{Line, line_of, lines}
use Rattle.rv_asm.specs.Statements.{Statement, Blank, Part, DataWord, DataByte, DataSpace, Ready, WithNumber, WithLabel, NumberInto, AddressInto}
use Rattle.rv_asm.specs.declared.fault.Fault.{Fault}
use Rattle.rv_asm.specs.declared.layout.Cursor.{Cursor}
use Rattle.rv_asm.specs.declared.layout.Place.{Place}

-- from the first to the second number, both included
abbrev pub is_within : ℤ → ℤ → ℤ → Bool
is_within low high n = not (int_lt n low) && not (int_lt high n)

-- a number that ADDI adds, which is a signed one of 12 bits
abbrev pub is_short : ℤ → Bool
is_short n = is_within (neg_ℤ (pos 2048)) (pos 2047) n

-- a number of zero bytes that the data part has room for
abbrev pub is_space : ℤ → Bool
is_space n = is_within (pos 0) (pos DATA_ROOM) n

-- How many bytes a statement has. Space out of its range counts as none.
unfoldable pub size : Statement → ℕ
size Blank = 0
size (Part in_data) = 0
size (DataWord n) = 4
size (DataByte n) = 1
size (DataSpace n) = if is_space n then unsigned_abs n else 0
size (Ready op) = 4
size (WithNumber op n) = 4
size (WithLabel op target) = 4
size (NumberInto rd n) = if is_short n then 4 else 8
size (AddressInto rd target) = 8

-- A cursor stands before a line: in which part, behind how many bytes of each part. A source begins in the text part.
abbrev pub start : Cursor
start = record { in_data = false; text_size = 0; data_size = 0 }

-- so many bytes further
unfoldable pub grown : Cursor → ℕ → Cursor
grown c bytes = if c.in_data then record c { data_size = c.data_size + bytes } else record c { text_size = c.text_size + bytes }

-- the part that a statement turns to
abbrev pub part_after : Bool → Statement → Bool
part_after in_data (Part part) = part
part_after in_data _ = in_data

-- behind a line; one with a fault counts as four bytes of its part and turns to no other
unfoldable pub passed : Cursor → Result Line Fault → Cursor
passed c (Ok line) = record (grown c (size line.statement)) { in_data = part_after c.in_data line.statement }
passed c (Err fault) = grown c 4

-- the byte address at a cursor
unfoldable pub address : Cursor → ℕ
address c = if c.in_data then DATA_BASE + c.data_size else TEXT_BASE + c.text_size

-- where the label that line k defines stands
abbrev pub place_at : Cursor → ℕ → Place
place_at c k = record { line = k; in_data = c.in_data; address = address c }

abbrev pub behind_line : Cursor → List ℕ → Cursor
behind_line c bytes = passed c (line_of c.in_data bytes)

-- a definition is a label and where it stands
abbrev pub named : Option (List ℕ) → Place → List (List ℕ × Place)
named (Some name) place = (name, place) ∷ []
named None place = []

abbrev pub defined : Cursor → ℕ → Result Line Fault → List (List ℕ × Place)
defined c k (Ok line) = named line.name (place_at c k)
defined c k (Err fault) = []

-- the definitions of lines from line k on, in order
unfoldable pub definitions : Cursor → ℕ → List (List ℕ) → List (List ℕ × Place)
definitions c k [] = []
definitions c k (bytes ∷ rest) = defined c k (line_of c.in_data bytes) ++ definitions (behind_line c bytes) (k + 1) rest

-- A label stands where the first of its definitions puts it.
unfoldable pub first_of : List ℕ → List (List ℕ × Place) → Option Place
first_of name [] = None
first_of name (d ∷ ds) = if bytes_eq name d.0 then Some d.1 else first_of name ds

unfoldable pub place_of : List ℕ → List ℕ → Option Place
place_of source name = first_of name (definitions start 1 (lines source))

-- the cursor behind lines
unfoldable pub end_of : Cursor → List (List ℕ) → Cursor
end_of c [] = c
end_of c (bytes ∷ rest) = end_of (behind_line c bytes) rest
