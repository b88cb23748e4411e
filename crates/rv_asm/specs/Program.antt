-- The program of a source: the instructions of each line, the bytes of the data part, the entry.
use Rattle.std.specs.Prelude.{ℕ, ◌+◌, ◌-◌, ◌*◌, ◌/◌, ◌%◌, ◌^◌, nat_le, if◌then◌else◌, List, [], ◌∷◌}
use Rattle.std.specs.Prelude.{◌++◌, codes, replicate, Option, Some, None, option_and_then, Result, Ok, Err, ℤ, unsigned_abs}
use Rattle.std.specs.Int.{cast_unsigned, to_le_bytes, w32, w64}
use Rattle.elf_write.specs.declared.layout.TheConstants.{TEXT_BASE}
use Rattle.rv_table.specs.Operations.{form_of, of_registers}
use Rattle.rv_table.specs.Words.{sign_extended}
use Rattle.rv_table.specs.declared.codes.TheConstants.{ADDI, LUI}
use Rattle.rv_table.specs.declared.form.Form.{Form}
use Rattle.rv_table.specs.declared.form.Form.TheVariants.{U}
use Rattle.rv_table.specs.declared.op.Op.{Op}
use Rattle.rv_asm.specs.Faults.{target_of}
use Rattle.rv_asm.specs.Layout.{address, behind_line, is_short}
use Rattle.rv_asm.specs.Lines.{Line, line_of}
use Rattle.rv_asm.specs.Statements.{Statement, DataWord, DataByte, DataSpace, Ready, WithNumber, WithLabel, NumberInto, AddressInto}
use Rattle.rv_asm.specs.declared.fault.Fault.{Fault}
use Rattle.rv_asm.specs.declared.layout.Cursor.{Cursor}
use Rattle.rv_asm.specs.declared.layout.Place.{Place}

-- a number modulo 2^32 (two's complement)
abbrev pub unsigned : ℤ → ℕ
unsigned n = cast_unsigned w64 n % 2 ^ 32

abbrev pub with_immediate : Op → ℕ → Op
with_immediate op imm = record op { imm = imm }

-- the immediate of a form that a number in the source gives: LUI and AUIPC take the upper 20 bits
abbrev pub immediate_of : Form → ℤ → ℕ
immediate_of U n = unsigned n * 2 ^ 12 % 2 ^ 32
immediate_of _ n = unsigned n

-- how far the goal is from the origin, as a 32-bit offset
abbrev pub offset : ℕ → ℕ → ℕ
offset origin goal = if nat_le origin goal then goal - origin else 2 ^ 32 - (origin - goal)

-- LUI and ADDI that put a number into a register: ADDI adds the rest, from -2048 to 2047, to what LUI puts there
abbrev pub upper_of : ℕ → ℕ → Op
upper_of rd n = with_immediate (of_registers LUI rd 0 0) ((n + 0x800) / 2 ^ 12 % 2 ^ 20 * 2 ^ 12)

abbrev pub lower_of : ℕ → ℕ → Op
lower_of rd n = with_immediate (of_registers ADDI rd rd 0) (sign_extended 12 (n % 2 ^ 12))

abbrev pub pair : ℕ → ℕ → List Op
pair rd n = upper_of rd n ∷ lower_of rd n ∷ []

-- one instruction is enough for a short number
abbrev pub number_into : ℕ → ℤ → List Op
number_into rd n = if is_short n then with_immediate (of_registers ADDI rd 0 0) (unsigned n) ∷ [] else pair rd (unsigned n)

-- the instructions of a statement at a byte address, whose label is at `goal`
unfoldable pub ops_of : ℕ → ℕ → Statement → List Op
ops_of origin goal (Ready op) = op ∷ []
ops_of origin goal (WithNumber op n) = with_immediate op (immediate_of (form_of op.code) n) ∷ []
ops_of origin goal (WithLabel op target) = with_immediate op (offset origin goal) ∷ []
ops_of origin goal (NumberInto rd n) = number_into rd n
ops_of origin goal (AddressInto rd target) = pair rd (goal % 2 ^ 32)
ops_of origin goal _ = []

-- the bytes of a statement in the data part
unfoldable pub bytes_of : Statement → List ℕ
bytes_of (DataWord n) = to_le_bytes w32 (unsigned n)
bytes_of (DataByte n) = unsigned n % 2 ^ 8 ∷ []
bytes_of (DataSpace n) = replicate (unsigned_abs n) 0
bytes_of _ = []

-- the address of the label that a statement uses, where labels stand as given
abbrev pub address_or : ℕ → Option Place → ℕ
address_or none (Some place) = place.address
address_or none None = none

abbrev pub goal_of : (List ℕ → Option Place) → Statement → ℕ
goal_of places statement = address_or 0 (option_and_then places (target_of statement))

abbrev pub line_ops : (List ℕ → Option Place) → Cursor → Result Line Fault → List Op
line_ops places c (Ok line) = ops_of (address c) (goal_of places line.statement) line.statement
line_ops places c (Err fault) = []

abbrev pub line_bytes : Result Line Fault → List ℕ
line_bytes (Ok line) = bytes_of line.statement
line_bytes (Err fault) = []

-- the instructions of lines, in order
unfoldable pub ops_in : (List ℕ → Option Place) → Cursor → List (List ℕ) → List Op
ops_in places c [] = []
ops_in places c (bytes ∷ rest) = line_ops places c (line_of c.in_data bytes) ++ ops_in places (behind_line c bytes) rest

-- the bytes that lines put into the data part, in order
unfoldable pub bytes_in : Cursor → List (List ℕ) → List ℕ
bytes_in c [] = []
bytes_in c (bytes ∷ rest) = line_bytes (line_of c.in_data bytes) ++ bytes_in (behind_line c bytes) rest

-- the byte address of `_start`, or where the text part begins
unfoldable pub entry_in : (List ℕ → Option Place) → ℕ
entry_in places = address_or TEXT_BASE (places (codes "_start"))
