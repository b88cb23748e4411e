-- The classes of a run's instructions, by the reads of whole values. First-level and transitive dynamic deadness are those of
-- Mukherjee et al. (MICRO 2003).
use Rattle.std.specs.Prelude.{ℕ, zero, suc, ◌+◌, ◌==◌, ◌&&◌, ◌||◌, Bool, true, false, not, nat_lt, is_none, List, [], ◌∷◌, ◌++◌, Option, Some, None, if◌then◌else◌}
use Rattle.need_pass.specs.Links.{writes, loads, stores}
use Rattle.rv_isa.specs.declared.effect.Retired.{Retired}
use Rattle.rv_table.specs.Operations.{operation_of}
use Rattle.rv_table.specs.declared.operation.Operation.{Operation}
use Rattle.rv_table.specs.declared.operation.Operation.TheVariants.{Jal, Jalr, Branch, Load, Store, Ecall, Ebreak}
use Rattle.dead_class.specs.declared.class.DeadClass.{DeadClass}
use Rattle.dead_class.specs.declared.class.DeadClass.TheVariants.{Needed, Nop, FddReg, TddReg, FddMem, TddMem}

-- Whether it reads register r. A field that an operation doesn't have is 0, and ECALL has registers 17 and 10.
abbrev pub reads : Retired → ℕ → Bool
reads i r = nat_lt 0 r && (r == i.op.rs1 || r == i.op.rs2)

-- The classes of those that read the value which register r holds before the first of these instructions, up to the one that
-- overwrites it. One that reads and writes the register reads the old value.
unfoldable pub register_readers : ℕ → List Retired → List DeadClass → List DeadClass
register_readers r (i ∷ later) (class ∷ classes) =
    (if reads i r then class ∷ [] else []) ++ (if writes i r then [] else register_readers r later classes)
register_readers r _ _ = []

-- the same for the byte at address p
unfoldable pub byte_readers : ℕ → List Retired → List DeadClass → List DeadClass
byte_readers p (i ∷ later) (class ∷ classes) =
    (if loads i p then class ∷ [] else []) ++ (if stores i p then [] else byte_readers p later classes)
byte_readers p _ _ = []

-- and for `size` bytes from address p on
unfoldable pub bytes_readers : ℕ → ℕ → List Retired → List DeadClass → List DeadClass
bytes_readers p zero later classes = []
bytes_readers p (suc size) later classes = bytes_readers p size later classes ++ byte_readers (p + size) later classes

abbrev pub is_needed : DeadClass → Bool
is_needed Needed = true
is_needed _ = false

abbrev pub some_needed : List DeadClass → Bool
some_needed [] = false
some_needed (class ∷ classes) = is_needed class || some_needed classes

-- a value that nothing reads, one that only dead instructions read, and one that a needed instruction reads
unfoldable pub by_readers : DeadClass → DeadClass → List DeadClass → DeadClass
by_readers unread dead [] = unread
by_readers unread dead (class ∷ classes) = if some_needed (class ∷ classes) then Needed else dead

-- operations that are no NOP even where they write no register
abbrev pub acts : Operation → Bool
acts (Load kind) = true
acts (Store kind) = true
acts (Branch kind) = true
acts Jal = true
acts Jalr = true
acts Ecall = true
acts Ebreak = true
acts _ = false

abbrev pub jumps : Operation → Bool
jumps Jal = true
jumps Jalr = true
jumps _ = false

-- it does nothing but go on
abbrev pub is_nop : Retired → Bool
is_nop i = not (acts (operation_of i.op.code)) && (is_none i.effect.end && is_none i.effect.write)

-- what it leaves behind can be dead: it doesn't jump, and doesn't end the run
abbrev pub may_die : Retired → Bool
may_die i = not (jumps (operation_of i.op.code)) && is_none i.effect.end

-- the class of a value that is left in a register, else in memory
abbrev pub stored_class : Option (ℕ × ℕ × ℕ) → List Retired → List DeadClass → DeadClass
stored_class (Some store) later classes = by_readers FddMem TddMem (bytes_readers store.0 store.1 later classes)
stored_class None later classes = Needed

abbrev pub value_class : Retired → Option (ℕ × ℕ) → List Retired → List DeadClass → DeadClass
value_class i (Some write) later classes = by_readers FddReg TddReg (register_readers write.0 later classes)
value_class i None later classes = stored_class i.effect.store later classes

-- the class of an instruction, from the later ones and theirs
unfoldable pub class_of : Retired → List Retired → List DeadClass → DeadClass
class_of i later classes =
    if is_nop i then Nop else (if may_die i then value_class i i.effect.write later classes else Needed)

-- the classes of a run's instructions
unfoldable pub classes_of : List Retired → List DeadClass
classes_of [] = []
classes_of (i ∷ later) = class_of i later (classes_of later) ∷ classes_of later

-- whether two classes are the same
abbrev pub is_class : DeadClass → DeadClass → Bool
is_class Needed Needed = true
is_class Nop Nop = true
is_class FddReg FddReg = true
is_class TddReg TddReg = true
is_class FddMem FddMem = true
is_class TddMem TddMem = true
is_class _ _ = false
