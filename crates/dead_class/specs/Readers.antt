-- What is known of a value's readers on the way back through a run.
use Rattle.std.specs.Prelude.{◌≡◌, ℕ, zero, suc, ◌+◌, ◌<◌, List, [], ◌∷◌, length, drop, reverse, slice_index_or, Option, Some, None, if◌then◌else◌}
use Rattle.std.specs.BTreeMap.{is_at}
use Rattle.std.specs.Map.{lookup}
use Rattle.std.specs.Option.{unwrap_or}
use Rattle.std.specs.Ordering.{nat_cmp}
use Rattle.rv_isa.specs.declared.effect.Retired.{Retired}
use Rattle.dead_class.specs.Classes.{some_needed, is_nop, may_die, register_readers, byte_readers, classes_of}
use Rattle.dead_class.specs.declared.class.DeadClass.{DeadClass}
use Rattle.dead_class.specs.declared.class.DeadClass.TheVariants.{Needed, Nop, FddReg, TddReg, FddMem, TddMem}
use Rattle.dead_class.specs.declared.readers.Readers.{Readers}
use Rattle.dead_class.specs.declared.readers.Readers.TheVariants.{Nobody, DeadOnly, SomeNeeded}

-- of a list of the readers' classes
unfoldable pub readers_of : List DeadClass → Readers
readers_of [] = Nobody
readers_of (class ∷ classes) = if some_needed (class ∷ classes) then SomeNeeded else DeadOnly

-- of two lists, one behind the other
abbrev pub both : Readers → Readers → Readers
both Nobody y = y
both DeadOnly SomeNeeded = SomeNeeded
both DeadOnly y = DeadOnly
both SomeNeeded y = SomeNeeded

-- of a single reader
abbrev pub reader : DeadClass → Readers
reader Needed = SomeNeeded
reader _ = DeadOnly

-- the class of a value
abbrev pub class_by : DeadClass → DeadClass → Readers → DeadClass
class_by unread dead Nobody = unread
class_by unread dead DeadOnly = dead
class_by unread dead SomeNeeded = Needed

-- the readers of register r, and of the byte at address p, as they are kept
abbrev pub of_register : List Readers → ℕ → Readers
of_register registers r = slice_index_or registers r Nobody

abbrev pub of_byte : List (ℕ × Readers) → ℕ → Readers
of_byte bytes p = unwrap_or (lookup (is_at (nat_cmp p)) bytes) Nobody

-- and of `size` bytes from address p on
unfoldable pub of_bytes : List (ℕ × Readers) → ℕ → ℕ → Readers
of_bytes bytes p zero = Nobody
of_bytes bytes p (suc size) = both (of_bytes bytes p size) (of_byte bytes (p + size))

abbrev pub stored_by : Option (ℕ × ℕ × ℕ) → List (ℕ × Readers) → DeadClass
stored_by (Some store) bytes = class_by FddMem TddMem (of_bytes bytes store.0 store.1)
stored_by None bytes = Needed

abbrev pub value_by : Option (ℕ × ℕ) → Option (ℕ × ℕ × ℕ) → List Readers → List (ℕ × Readers) → DeadClass
value_by (Some write) store registers bytes = class_by FddReg TddReg (of_register registers write.0)
value_by None store registers bytes = stored_by store bytes

-- the class of an instruction, from what is kept
abbrev pub class_from : Retired → List Readers → List (ℕ × Readers) → DeadClass
class_from i registers bytes =
    if is_nop i then Nop else (if may_die i then value_by i.effect.write i.effect.store registers bytes else Needed)

-- What is kept before instruction `at`, and the classes from there on, the last instruction's first.
pub record IsKept (entries : List Retired) (registers : List Readers) (bytes : List (ℕ × Readers)) (classes : List DeadClass) (at : ℕ) : Type 0 where
  pub count : length registers ≡ 32
  pub register : (r : ℕ) → 0 < r → r < 32 → of_register registers r ≡ readers_of (register_readers r (drop at entries) (classes_of (drop at entries)))
  pub byte : (p : ℕ) → of_byte bytes p ≡ readers_of (byte_readers p (drop at entries) (classes_of (drop at entries)))
  pub classes_are : classes ≡ reverse (classes_of (drop at entries))
