-- The rules for registers and memory: by them a bit of the register file, of the store buffer or of the cache is un-ACE. Each is told by
-- structure and bit; of what isn't named a rule doesn't hold. A byte outside RAM is never needed.
use Rattle.std.specs.Prelude.{◌≡◌, ⊤, ◌≢◌, ◌⊎◌, ◌≤◌, suc, ℕ, ◌+◌, ◌*◌, ◌/◌, ◌%◌, ◌==◌, ◌&&◌, Bool, true, false, is_some, Some, slice_get, drop}
use Rattle.bit_field.specs.Lanes.{has_lane}
use Rattle.bit_field.specs.declared.places.Structure.{Structure}
use Rattle.bit_field.specs.declared.places.Structure.TheVariants.{Rf, Sb, CData, CTag, CValid, CDirty}
use Rattle.elf_load.specs.Image.{in_ram}
use Rattle.rv_table.specs.Effects.{written_register}
use Rattle.rv_isa.specs.declared.effect.Retired.{Retired}
use Rattle.store_buf.specs.Covers.{found}
use Rattle.store_buf.specs.Entry.{Entry as Pending}
use Rattle.store_buf.specs.EntryBits as sb
use Rattle.store_buf.specs.Pending.{pending, slot_of}
use Rattle.store_buf.specs.declared.pending.PendingField.{PendingField}
use Rattle.store_buf.specs.declared.pending.PendingField.TheVariants as pending_field
use Rattle.store_buf.specs.declared.pending.TheConstants.{PENDING_BITS}
use Rattle.wb_cache.specs.Changes.{set_at}
use Rattle.wb_cache.specs.Contents.{slot_at}
use Rattle.wb_cache.specs.Lookup.{line_of}
use Rattle.event_log.specs.Lookups.{looked_up}
use Rattle.event_log.specs.Nexts.{next_of}
use Rattle.event_log.specs.declared.next.Next.{Next}
use Rattle.event_log.specs.declared.next.Next.TheVariants.{Read, Overwritten, Beside, Evicted, Ends}
use Rattle.tag_dist.specs.Lines.{accesses}
use Rattle.cyc_machine.specs.Cycle.{action_in_m}
use Rattle.clean_lines.specs.Struck.{IsCleanSlot, IsDirtySlot, near_line, tag_line, tag_slot}
use Rattle.need_pass.specs.Needed.{Needed}
use Rattle.need_pass.specs.ProgramBits.{ProgramBit}
use Rattle.need_pass.specs.ProgramBits.ProgramBit.{Byte, Register}
use Rattle.ace_law.specs.Moments.{IsQuiet, Moment, decoded, decoded_is_on_path, moved, retired, state}
use Rattle.ace_law.specs.PipelineRules.{IsIn}

-- the bit isn't needed by any instruction from i on
abbrev pub IsUnneeded : Moment → ℕ → ProgramBit → Type 0
IsUnneeded a i bit = Needed (drop i a.run.entries) bit → ⊥

-- ---- U6: dead register bits

-- MEM/WB or EX/MEM writes the register, or ID/EX does, on path
abbrev pub IsOverwritten : Moment → ℕ → Type 0
IsOverwritten a r =
    ((state a).w.rd ≡ r) ⊎ (written_register (action_in_m (state a)) ≡ r) ⊎ ((decoded_is_on_path a ≡ true) × ((state a).d.rd ≡ r))

abbrev pub IsDeadRegisterBit : Moment → Structure → ℕ → Type 0
IsDeadRegisterBit a Rf k = IsOverwritten a (k / 32 + 1) ⊎ IsUnneeded a (decoded a) (Register (k / 32 + 1) (k % 32))
IsDeadRegisterBit a _ k = ⊥

-- ---- U7: dead dirty or pending data

-- a pending store holds byte p; and one in a slot behind slot i
abbrev pub IsPending : Moment → ℕ → Type 0
IsPending a p = is_some (found (pending (state a).stores) (p / 4) (p % 4)) ≡ true

abbrev pub IsPendingBehind : Moment → ℕ → ℕ → Type 0
IsPendingBehind a i p = is_some (found (drop (suc i) (state a).stores) (p / 4) (p % 4)) ≡ true

-- the line that slot l holds, and the address of its byte o
abbrev pub line_in : Moment → ℕ → ℕ
line_in a l = line_of a.r.shape (set_at a.r.shape l) (slot_at (state a).cache l).tag

abbrev pub byte_in : Moment → ℕ → ℕ → ℕ
byte_in a l o = 16 * line_in a l + o

-- bit j of the value of a store in slot i
abbrev pub IsDeadValue : Moment → ℕ → Pending → PendingField → ℕ → Type 0
IsDeadValue a i e pending_field.Value j =
    (has_lane e.mask (j / 8) ≡ true)
    × (IsPendingBehind a i (4 * e.addr + j / 8) ⊎ IsUnneeded a (retired a) (Byte (4 * e.addr + j / 8) (j % 8)))
IsDeadValue a i e _ j = ⊥

abbrev pub IsDeadDataBit : Moment → Structure → ℕ → Type 0
IsDeadDataBit a CData k =
    IsDirtySlot (state a).cache (k / 128)
    × (IsPending a (byte_in a (k / 128) (k % 128 / 8)) ⊎ IsUnneeded a (retired a) (Byte (byte_in a (k / 128) (k % 128 / 8)) (k % 8)))
IsDeadDataBit a Sb k = IsIn (IsDeadValue a (k / PENDING_BITS) (slot_of (state a).stores (k / PENDING_BITS))) (sb.field_of (k % PENDING_BITS))
IsDeadDataBit a _ k = ⊥

-- ---- U8: harmless store redirections

-- whether a store writes byte p
abbrev pub writes : Pending → ℕ → Bool
writes e p = e.addr == p / 4 && has_lane e.mask (p % 4)

-- each byte that the store in slot i no longer writes or newly writes is outside RAM, or held by a store behind it, or not needed
abbrev pub IsHarmlessRedirection : Moment → ℕ → Pending → Pending → Type 0
IsHarmlessRedirection a i e redirected =
    (p : ℕ) → writes redirected p ≢ writes e p
    → (in_ram a.r.image p ≡ false) ⊎ IsPendingBehind a i p ⊎ ((j : ℕ) → IsUnneeded a (retired a) (Byte p j))

-- mask and address say where it writes
abbrev pub IsTarget : PendingField → ℕ → Type 0
IsTarget pending_field.Value j = ⊥
IsTarget _ j = ⊤

abbrev pub IsRedirectionBit : Moment → Structure → ℕ → Type 0
IsRedirectionBit a Sb k =
    IsIn IsTarget (sb.field_of (k % PENDING_BITS))
    × IsHarmlessRedirection a (k / PENDING_BITS) (slot_of (state a).stores (k / PENDING_BITS))
    (sb.flipped (slot_of (state a).stores (k / PENDING_BITS)) (k % PENDING_BITS))
IsRedirectionBit a _ k = ⊥

-- ---- U9: clean data by its next event

-- by what comes next in its slot, from this cycle on, that concerns the byte: it isn't read; after a write beside it the run ends, or the
-- bit, which is dirty then, is dead in the cycle after, and that is quiet
abbrev pub IsUnread : Moment → ℕ → Next → Type 0
IsUnread a k Ends = ⊤
IsUnread a k (Overwritten c) = ⊤
IsUnread a k (Evicted c) = ⊤
IsUnread a k (Beside c) = (suc c ≡ a.r.cycles) ⊎ (IsQuiet (moved a (suc c)) × IsDeadDataBit (moved a (suc c)) CData k)
IsUnread a k (Read c) = ⊥

abbrev pub IsUnreadDataBit : Moment → Structure → ℕ → Type 0
IsUnreadDataBit a CData k = IsCleanSlot (state a).cache (k / 128) × IsUnread a k (next_of a.r.shape (k / 128) (k % 128 / 8) a.t a.r.events)
IsUnreadDataBit a _ k = ⊥

-- ---- U10: valid and dirty of clean lines

abbrev pub IsCleanLineBit : Moment → Structure → ℕ → Type 0
IsCleanLineBit a CValid l = IsCleanSlot (state a).cache l
IsCleanLineBit a CDirty l = IsCleanSlot (state a).cache l
IsCleanLineBit a _ l = ⊥

-- ---- U11: lines that are not accessed again

-- an instruction that hasn't left the memory stage loads from or stores to the line, or a pending store is to it
abbrev pub IsAccessedLater : Moment → ℕ → Type 0
IsAccessedLater a line = (i : ℕ) × (entry : Retired) × (retired a ≤ i) × (slice_get a.run.entries i ≡ Some entry) × (accesses line entry ≡ true)

abbrev pub IsPendingLine : Moment → ℕ → Type 0
IsPendingLine a line = (i : ℕ) × (e : Pending) × (slice_get (pending (state a).stores) i ≡ Some e) × (e.addr / 4 ≡ line)

abbrev pub IsAccessedAgain : Moment → ℕ → Type 0
IsAccessedAgain a line = IsAccessedLater a line ⊎ IsPendingLine a line

abbrev pub IsUnaccessedBit : Moment → Structure → ℕ → Type 0
IsUnaccessedBit a CTag k =
    (IsCleanSlot (state a).cache (tag_slot (state a).cache k) × (IsAccessedAgain a (near_line (state a).cache k) → ⊥))
    ⊎ (IsDirtySlot (state a).cache (tag_slot (state a).cache k) × (IsAccessedAgain a (tag_line (state a).cache k) → ⊥)
    × (IsAccessedAgain a (near_line (state a).cache k) → ⊥))
IsUnaccessedBit a CValid l = ((slot_at (state a).cache l).valid ≡ false ⊎ IsDirtySlot (state a).cache l) × (IsAccessedAgain a (line_in a l) → ⊥)
IsUnaccessedBit a CDirty l = IsDirtySlot (state a).cache l × (IsAccessedAgain a (line_in a l) → ⊥)
IsUnaccessedBit a _ k = ⊥

-- ---- U12: clean tags that no look-up can confuse

-- up to and with the first fill into the slot from this cycle on, or to the end, no event is of the line
abbrev pub IsUnseen : Moment → ℕ → ℕ → Type 0
IsUnseen a l line = looked_up a.r.shape l line a.t a.r.events ≡ false

abbrev pub IsUnconfusedTagBit : Moment → Structure → ℕ → Type 0
IsUnconfusedTagBit a CTag k =
    IsCleanSlot (state a).cache (tag_slot (state a).cache k)
    × IsUnseen a (tag_slot (state a).cache k) (tag_line (state a).cache k)
    × IsUnseen a (tag_slot (state a).cache k) (near_line (state a).cache k)
IsUnconfusedTagBit a _ k = ⊥
