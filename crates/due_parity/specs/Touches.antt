-- Parity of registers and of cached bytes. Each register and each byte of the cache is a group of bits with a parity bit, which is checked
-- where the group is read and made anew where the group is written.
use Rattle.std.specs.Prelude.{ℕ, ⊤, ◌+◌, ◌/◌, ◌%◌, ◌==◌, ◌&&◌, ◌||◌, Bool, true, false, List, Option, Some, None, slice_get, if◌then◌else◌}
use Rattle.bit_field.specs.declared.places.Place.{Place}
use Rattle.bit_field.specs.declared.places.Structure.{Structure}
use Rattle.bit_field.specs.declared.places.Structure.TheVariants.{Rf, CData}
use Rattle.bit_field.specs.declared.shapes.Shape.{Shape}
use Rattle.rv_table.specs.declared.op.Op.{Op}
use Rattle.inst_buf.specs.Buffer.{entries}
use Rattle.inst_buf.specs.Entry.{Entry}
use Rattle.wb_cache.specs.Contents.{Contents, slot_at, slot_of}
use Rattle.wb_cache.specs.declared.event.CacheEvent.{CacheEvent}
use Rattle.wb_cache.specs.declared.event.EventKind.{EventKind}
use Rattle.wb_cache.specs.declared.event.EventKind.TheVariants.{Read, Write, Miss, Fill}
use Rattle.event_log.specs.Events.{holds_byte}
use Rattle.cyc_machine.specs.Cycle.{event_in, fate}
use Rattle.cyc_machine.specs.Pipeline.{op_of_entry}
use Rattle.cyc_machine.specs.State.{State}
use Rattle.cyc_machine.specs.declared.fate.Fate.{Fate}
use Rattle.cyc_machine.specs.declared.fate.Fate.TheVariants.{Absent, Dropped, Stays, Goes}
use Rattle.due_parity.specs.declared.touch.Touch.{Touch}
use Rattle.due_parity.specs.declared.touch.Touch.TheVariants.{Untouched, ReadOut, Renewed}

-- Registers.

-- the instruction that ID takes, on the right path or not: the first of the buffer, unless ID/EX stays or is dropped
abbrev pub entry_taken : Fate → List Entry → Option Entry
entry_taken Absent waiting = slice_get waiting 0
entry_taken Dropped waiting = None
entry_taken Stays waiting = None
entry_taken (Goes a b) waiting = slice_get waiting 0

abbrev pub op_taken : Option Entry → Option Op
op_taken (Some e) = Some (op_of_entry e)
op_taken None = None

-- whether it has the register as an operand
abbrev pub op_names : ℕ → Option Op → Bool
op_names r (Some op) = op.rs1 == r || op.rs2 == r
op_names r None = false

-- Register r in a cycle in which MEM/WB writes register rd: a read of the register that is written takes the value of MEM/WB.
abbrev pub register_touch_by : ℕ → ℕ → Option Op → Touch
register_touch_by r rd op = if rd == r then Renewed else if op_names r op then ReadOut else Untouched

abbrev pub register_touch : State → ℕ → Touch
register_touch s r = register_touch_by r s.w.rd (op_taken (entry_taken (fate s) (entries s.buffer)))

-- Bytes of the cache.

-- An event of the byte's slot, by whether its lanes hold the byte, and whether the slot held a dirty line before it. A fill of a dirty
-- slot reads each byte of the line for the write-back, before it makes it anew.
abbrev pub byte_touch_by : EventKind → Bool → Bool → Touch
byte_touch_by Read true dirty = ReadOut
byte_touch_by Read false dirty = Untouched
byte_touch_by Write true dirty = Renewed
byte_touch_by Write false dirty = Untouched
byte_touch_by Miss held dirty = Untouched
byte_touch_by Fill held true = ReadOut
byte_touch_by Fill held false = Renewed

abbrev pub is_dirty_slot : Contents → ℕ → Bool
is_dirty_slot c l = (slot_at c l).valid && (slot_at c l).dirty

-- byte `byte`, 0 to 15, of slot l
abbrev pub byte_touch_with : Shape → Bool → ℕ → ℕ → Option CacheEvent → Touch
byte_touch_with shape dirty l byte None = Untouched
byte_touch_with shape dirty l byte (Some e) =
    if slot_of shape e.set e.way == l then byte_touch_by e.kind (holds_byte byte e) dirty else Untouched

abbrev pub byte_touch : State → ℕ → ℕ → Touch
byte_touch s l byte = byte_touch_with s.cache.shape (is_dirty_slot s.cache l) l byte (event_in s)

-- Groups.

-- the structures with parity
abbrev pub IsProtected : Structure → Type 0
IsProtected Rf = ⊤
IsProtected CData = ⊤
IsProtected _ = ⊥

-- the group of bit k: group g of the register file is register g + 1, and group g of the cache is byte g % 16 of slot g / 16
abbrev pub group_of : Structure → ℕ → ℕ
group_of Rf k = k / 32
group_of CData k = k / 8
group_of _ k = k

unfoldable pub group_touch : Structure → State → ℕ → Touch
group_touch Rf s g = register_touch s (g + 1)
group_touch CData s g = byte_touch s (g / 16) (g % 16)
group_touch _ s g = Untouched

-- what the cycle from a state does to the group of the bit at a place
abbrev pub touch : State → Place → Touch
touch s p = group_touch p.structure s (group_of p.structure p.bit)
