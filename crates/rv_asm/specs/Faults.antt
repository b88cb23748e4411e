-- Faults: what is wrong with a line, and the first fault of a source.
use Rattle.std.specs.Prelude.{ℕ, ◌+◌, ◌-◌, ◌%◌, ◌^◌, ◌==◌, ◌&&◌, ◌||◌, Bool, true, false, not, nat_le, nat_lt, if◌then◌else◌}
use Rattle.std.specs.Prelude.{List, [], ◌∷◌, bytes_eq, codes, Option, Some, None, option_map, option_and_then, Result, Ok, Err, ℤ, pos, neg_ℤ}
use Rattle.std.specs.Option.{option_or}
use Rattle.rv_table.specs.Operations.{form_of}
use Rattle.rv_table.specs.declared.form.Form.{Form}
use Rattle.rv_table.specs.declared.form.Form.TheVariants.{U, Shift, B}
use Rattle.rv_asm.specs.Layout.{address, behind_line, is_short, is_space, is_within}
use Rattle.rv_asm.specs.Lines.{Line, line_of}
use Rattle.rv_asm.specs.Statements.{Statement, DataWord, DataByte, DataSpace, WithNumber, WithLabel, NumberInto, AddressInto}
use Rattle.rv_asm.specs.declared.fault.Fault.{Fault}
use Rattle.rv_asm.specs.declared.fault.Fault.TheVariants.{OutOfRange, DefinedTwice, Undefined}
use Rattle.rv_asm.specs.declared.layout.Cursor.{Cursor}
use Rattle.rv_asm.specs.declared.layout.Place.{Place}
use Rattle.rv_asm.specs.declared.search.TheConstants.{BRANCH_REACH, JUMP_REACH}

-- a number of 32 bits, signed or not
abbrev pub is_word : ℤ → Bool
is_word n = is_within (neg_ℤ (pos (2 ^ 31))) (pos (2 ^ 32 - 1)) n

-- a number of 8 bits, signed or not
abbrev pub is_byte : ℤ → Bool
is_byte n = is_within (neg_ℤ (pos 128)) (pos 255) n

-- whether the immediate of a form can be this number
abbrev pub in_range : Form → ℤ → Bool
in_range U n = is_within (pos 0) (pos 0xFFFFF) n
in_range Shift n = is_within (pos 0) (pos 31) n
in_range _ n = is_short n

-- a number that is out of its range
unfoldable pub is_out_of_range : Statement → Bool
is_out_of_range (DataWord n) = not (is_word n)
is_out_of_range (DataByte n) = not (is_byte n)
is_out_of_range (DataSpace n) = not (is_space n)
is_out_of_range (WithNumber op n) = not (in_range (form_of op.code) n)
is_out_of_range (NumberInto rd n) = not (is_word n)
is_out_of_range _ = false

-- the label that a statement uses
abbrev pub target_of : Statement → Option (List ℕ)
target_of (WithLabel op target) = Some target
target_of (AddressInto rd target) = Some target
target_of _ = None

-- an even offset from `reach` bytes back to less than `reach` bytes on
abbrev pub reaches : ℕ → ℕ → ℕ → Bool
reaches reach origin goal =
    (origin % 2 == goal % 2) && (if nat_le origin goal then nat_lt (goal - origin) reach else nat_le (origin - goal) reach)

abbrev pub reach_of : Form → ℕ
reach_of B = BRANCH_REACH
reach_of _ = JUMP_REACH

-- a branch or a jump, at an address, that doesn't reach its target
unfoldable pub misses : ℕ → Option Place → Statement → Bool
misses origin (Some place) (WithLabel op target) = not (reaches (reach_of (form_of op.code)) origin place.address)
misses origin _ _ = false

-- Where the label that a line defines is first defined: on another line; or on this one, as a start that is no address of an instruction.
abbrev pub is_again : ℕ → Option Place → Bool
is_again k (Some own) = not (own.line == k)
is_again k None = false

abbrev pub is_start : Option (List ℕ) → Bool
is_start (Some name) = bytes_eq name (codes "_start")
is_start None = false

abbrev pub is_bad_place : ℕ → Option Place → Bool
is_bad_place k (Some own) = own.line == k && (own.in_data || not (own.address % 4 == 0))
is_bad_place k None = false

-- a label that is used, and where it stands
abbrev pub is_missing : Option (List ℕ) → Option Place → Bool
is_missing (Some name) None = true
is_missing _ _ = false

-- The first fault from 4 on of line k at a cursor, where its label and its target stand as given.
unfoldable pub later_fault : Option Place → Option Place → Cursor → ℕ → Line → Option Fault
later_fault own target c k line =
    if is_out_of_range line.statement || misses (address c) target line.statement || (is_start line.name && is_bad_place k own) then Some OutOfRange
    else if is_again k own then Some DefinedTwice
    else if is_missing (target_of line.statement) target then Some Undefined
    else None

-- the first fault of line k, where labels stand as given
unfoldable pub fault_of : (List ℕ → Option Place) → Cursor → ℕ → Result Line Fault → Option Fault
fault_of places c k (Err fault) = Some fault
fault_of places c k (Ok line) = later_fault (option_and_then places line.name) (option_and_then places (target_of line.statement)) c k line

-- the least line with a fault, from line k on, and its first fault
unfoldable pub first_fault : (List ℕ → Option Place) → Cursor → ℕ → List (List ℕ) → Option (ℕ × Fault)
first_fault places c k [] = None
first_fault places c k (bytes ∷ rest) =
    option_or (option_map (λ fault. (k, fault)) (fault_of places c k (line_of c.in_data bytes)))
    (first_fault places (behind_line c bytes) (k + 1) rest)
