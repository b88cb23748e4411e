-- The rules for the pipeline: by them a bit of a program counter, of the predictor, of the port, of the instruction buffer or of a latch is
-- un-ACE. Each is told by structure and bit, the bit by its field; of what isn't named a rule doesn't hold.
use Rattle.std.specs.Prelude.{◌≡◌, ⊤, ◌≢◌, ◌⊎◌, ℕ, ◌+◌, ◌/◌, ◌%◌, ◌<◌, ◌≤◌, true, false, length}
use Rattle.bit_field.specs.declared.places.Structure.{Structure}
use Rattle.bit_field.specs.declared.places.Structure.TheVariants.{Pc, Bht, Btb, Ib, IdEx, ExMem, MemWb, Sb, Port, CData, CTag, CDirty, CLru}
use Rattle.bit_field.specs.Lanes.{has_lane}
use Rattle.bit_field.specs.Shapes.{tag_bits}
use Rattle.pipe_latch.specs.DecodedBits as idex
use Rattle.pipe_latch.specs.ExecutedBits as exmem
use Rattle.pipe_latch.specs.ResultBits as memwb
use Rattle.pipe_latch.specs.LatchedActions.{kind_of}
use Rattle.pipe_latch.specs.declared.id_ex.IdExField.{IdExField}
use Rattle.pipe_latch.specs.declared.id_ex.IdExField.TheVariants as decoded_field
use Rattle.pipe_latch.specs.declared.ex_mem.ExMemField.{ExMemField}
use Rattle.pipe_latch.specs.declared.ex_mem.ExMemField.TheVariants as executed_field
use Rattle.pipe_latch.specs.declared.mem_wb.MemWbField.{MemWbField}
use Rattle.pipe_latch.specs.declared.mem_wb.MemWbField.TheVariants as result_field
use Rattle.pipe_latch.specs.declared.kinds.ExMemKind.TheVariants.{Trap}
use Rattle.inst_buf.specs.Buffer.{slot_of as fetched_slot}
use Rattle.inst_buf.specs.Entry.{Entry as Fetched}
use Rattle.inst_buf.specs.EntryBits as ib
use Rattle.inst_buf.specs.declared.slots.SlotField.{SlotField}
use Rattle.inst_buf.specs.declared.slots.SlotField.TheVariants as slot_field
use Rattle.inst_buf.specs.declared.slots.TheConstants.{SLOT_BITS}
use Rattle.store_buf.specs.EntryBits as sb
use Rattle.store_buf.specs.Entry.{Entry as Pending}
use Rattle.store_buf.specs.Pending.{slot_of as pending_slot}
use Rattle.store_buf.specs.declared.pending.PendingField.{PendingField}
use Rattle.store_buf.specs.declared.pending.PendingField.TheVariants as pending_field
use Rattle.store_buf.specs.declared.pending.TheConstants.{PENDING_BITS}
use Rattle.wb_cache.specs.Contents.{slot_at}
use Rattle.std.specs.Prelude.{Option, Some, None, List, []}
use Rattle.cyc_machine.specs.Cycle.{action_in_m}
use Rattle.cyc_machine.specs.InFlight.{Item, item_of_latch}
use Rattle.cyc_machine.specs.Pipeline.{op_of_entry}
use Rattle.cyc_machine.specs.Strikes.{flip_in}
use Rattle.flush_view.specs.Flush.{item_of_entry}
use Rattle.flush_view.specs.Positions.{is_instruction, on_path}
use Rattle.flush_view.specs.Views.{view}
use Rattle.ace_law.specs.Agreements.{OperationAgrees, OutcomeAgrees}
use Rattle.ace_law.specs.Moments.{Moment, decoded_is_on_path, entries_on_path, executed, front, state, trace}

-- ---- which bits a rule names, by their fields

-- the bit at a place in its field
abbrev pub IsIn : {F : Type 0} → (F → ℕ → Type 0) → Option (F × ℕ) → Type 0
IsIn named None = ⊥
IsIn named (Some place) = named place.0 place.1

-- ---- U1: prediction and timing

abbrev pub IsCount : IdExField → ℕ → Type 0
IsCount decoded_field.Count i = ⊤
IsCount _ i = ⊥

-- A bit that only changes what is predicted, or when something is done: the fetch address, the predictor's tables, the port, the order of
-- replacement, and the cycles that ID/EX still waits.
abbrev pub IsTimingBit : Moment → Structure → ℕ → Type 0
IsTimingBit a Pc k = ⊤
IsTimingBit a Bht k = ⊤
IsTimingBit a Btb k = ⊤
IsTimingBit a Port k = ⊤
IsTimingBit a CLru k = ⊤
IsTimingBit a IdEx k = IsIn IsCount (idex.field_of k)
IsTimingBit a _ k = ⊥

-- ---- U2: fields of an empty place

-- of a free slot of the instruction buffer all but the valid bit
abbrev pub IsUnusedFetched : SlotField → ℕ → Type 0
IsUnusedFetched slot_field.Valid i = ⊥
IsUnusedFetched _ i = ⊤

-- of an empty ID/EX all but the valid bit and the count
abbrev pub IsUnusedDecoded : IdExField → ℕ → Type 0
IsUnusedDecoded decoded_field.Valid i = ⊥
IsUnusedDecoded decoded_field.Count i = ⊥
IsUnusedDecoded _ i = ⊤

-- of an empty EX/MEM all but the valid bit
abbrev pub IsUnusedExecuted : ExMemField → ℕ → Type 0
IsUnusedExecuted executed_field.Valid i = ⊥
IsUnusedExecuted _ i = ⊤

-- of a MEM/WB that writes no register the value
abbrev pub IsUnusedResult : MemWbField → ℕ → Type 0
IsUnusedResult result_field.Value i = ⊤
IsUnusedResult _ i = ⊥

-- of a store: of a free slot its address and value, else the bytes of the value that it doesn't write
abbrev pub IsUnusedPending : Pending → PendingField → ℕ → Type 0
IsUnusedPending e pending_field.Mask i = ⊥
IsUnusedPending e pending_field.Addr i = e.mask ≡ 0
IsUnusedPending e pending_field.Value i = has_lane e.mask (i / 8) ≡ false

abbrev pub IsEmptyPlaceBit : Moment → Structure → ℕ → Type 0
IsEmptyPlaceBit a Ib k = ((fetched_slot (state a).buffer (k / SLOT_BITS)).valid ≡ false) × IsIn IsUnusedFetched (ib.field_of (k % SLOT_BITS))
IsEmptyPlaceBit a IdEx k = ((state a).d.valid ≡ false) × IsIn IsUnusedDecoded (idex.field_of k)
IsEmptyPlaceBit a ExMem k = ((state a).m.valid ≡ false) × IsIn IsUnusedExecuted (exmem.field_of k)
IsEmptyPlaceBit a MemWb k = ((state a).w.rd ≡ 0) × IsIn IsUnusedResult (memwb.field_of k)
IsEmptyPlaceBit a Sb k = IsIn (IsUnusedPending (pending_slot (state a).stores (k / PENDING_BITS))) (sb.field_of (k % PENDING_BITS))
IsEmptyPlaceBit a CData k = (slot_at (state a).cache (k / 128)).valid ≡ false
IsEmptyPlaceBit a CTag k = (slot_at (state a).cache (k / tag_bits a.r.shape)).valid ≡ false
IsEmptyPlaceBit a CDirty k = (slot_at (state a).cache k).valid ≡ false
IsEmptyPlaceBit a _ k = ⊥

-- ---- on path and off it

-- all entries before it are on path, and the item is the instruction that comes behind them
abbrev pub ComesNext : Moment → List Item → Item → Type 0
ComesNext a before item =
    (on_path (trace a) (executed a) before ≡ length before) × (is_instruction (trace a) (executed a + length before) item ≡ true)

-- slot i of the instruction buffer holds an entry, on path or off it
abbrev pub IsSlotOnPath : Moment → ℕ → Type 0
IsSlotOnPath a i = ((fetched_slot (state a).buffer i).valid ≡ true) × (length (front a i) < entries_on_path a)

abbrev pub IsSlotOffPath : Moment → ℕ → Type 0
IsSlotOffPath a i = ((fetched_slot (state a).buffer i).valid ≡ true) × (entries_on_path a ≤ length (front a i))

-- slot i with a bit flipped
abbrev pub slot_flipped : Moment → ℕ → ℕ → Fetched
slot_flipped a i bit = ib.flipped (fetched_slot (state a).buffer i) bit

-- ---- U3: entries on a wrong path

-- a bit of the address that would make the entry the next instruction is excepted
abbrev pub IsWrongFetched : Moment → ℕ → ℕ → SlotField → ℕ → Type 0
IsWrongFetched a i bit slot_field.Pc j = ComesNext a (front a i) (item_of_entry (slot_flipped a i bit)) → ⊥
IsWrongFetched a i bit _ j = ⊤

-- the count of ID/EX is left to timing
abbrev pub IsWrongDecoded : Moment → ℕ → IdExField → ℕ → Type 0
IsWrongDecoded a bit decoded_field.Pc j =
    ComesNext a [] (item_of_latch (state a).image (action_in_m (state a)) (state a).w (view (state a)) (idex.flipped (state a).d bit)) → ⊥
IsWrongDecoded a bit decoded_field.Count j = ⊥
IsWrongDecoded a bit _ j = ⊤

abbrev pub IsWrongPathBit : Moment → Structure → ℕ → Type 0
IsWrongPathBit a Ib k = IsSlotOffPath a (k / SLOT_BITS) × IsIn (IsWrongFetched a (k / SLOT_BITS) (k % SLOT_BITS)) (ib.field_of (k % SLOT_BITS))
IsWrongPathBit a IdEx k = ((state a).d.valid ≡ true) × (decoded_is_on_path a ≡ false) × IsIn (IsWrongDecoded a k) (idex.field_of k)
IsWrongPathBit a _ k = ⊥

-- ---- U4: valid and pc bits of on-path or idle entries

-- of an entry on path the valid bit and the address: without it the rest of the path is fetched anew
abbrev pub IsPlaceOfFetched : SlotField → ℕ → Type 0
IsPlaceOfFetched slot_field.Valid i = ⊤
IsPlaceOfFetched slot_field.Pc i = ⊤
IsPlaceOfFetched _ i = ⊥

-- of a free slot the valid bit, but where the slot would then be taken for the next instruction
abbrev pub IsIdleFetched : Moment → ℕ → ℕ → SlotField → ℕ → Type 0
IsIdleFetched a i bit slot_field.Valid j = ComesNext a (front a i) (item_of_entry (slot_flipped a i bit)) → ⊥
IsIdleFetched a i bit _ j = ⊥

abbrev pub IsPlaceOfDecoded : IdExField → ℕ → Type 0
IsPlaceOfDecoded decoded_field.Valid i = ⊤
IsPlaceOfDecoded decoded_field.Pc i = ⊤
IsPlaceOfDecoded _ i = ⊥

abbrev pub IsIdleDecoded : IdExField → ℕ → Type 0
IsIdleDecoded decoded_field.Valid i = ⊤
IsIdleDecoded _ i = ⊥

abbrev pub IsOnPathBit : Moment → Structure → ℕ → Type 0
IsOnPathBit a Ib k =
    (IsSlotOnPath a (k / SLOT_BITS) × IsIn IsPlaceOfFetched (ib.field_of (k % SLOT_BITS)))
    ⊎ (((fetched_slot (state a).buffer (k / SLOT_BITS)).valid ≡ false)
    × IsIn (IsIdleFetched a (k / SLOT_BITS) (k % SLOT_BITS)) (ib.field_of (k % SLOT_BITS)))
IsOnPathBit a IdEx k =
    ((decoded_is_on_path a ≡ true) × IsIn IsPlaceOfDecoded (idex.field_of k))
    ⊎ (((state a).d.valid ≡ false) × ((state a).d.pc ≢ (state a).npc) × IsIn IsIdleDecoded (idex.field_of k))
IsOnPathBit a _ k = ⊥

-- ---- U5: logically masked

-- of an entry on path what is fetched
abbrev pub IsFetchedPart : SlotField → ℕ → Type 0
IsFetchedPart slot_field.Fault i = ⊤
IsFetchedPart slot_field.Word i = ⊤
IsFetchedPart _ i = ⊥

-- of ID/EX what says what is done, not where and when
abbrev pub IsDecodedPart : IdExField → ℕ → Type 0
IsDecodedPart decoded_field.Valid i = ⊥
IsDecodedPart decoded_field.Pc i = ⊥
IsDecodedPart decoded_field.Count i = ⊥
IsDecodedPart _ i = ⊤

abbrev pub IsExecutedPart : ExMemField → ℕ → Type 0
IsExecutedPart executed_field.Cause i = ⊥
IsExecutedPart _ i = ⊤

-- With the bit flipped, what the latches leave agrees; of an entry of the buffer, its instruction does the same.
abbrev pub IsMaskedBit : Moment → Structure → ℕ → Type 0
IsMaskedBit a Ib k =
    IsSlotOnPath a (k / SLOT_BITS) × IsIn IsFetchedPart (ib.field_of (k % SLOT_BITS))
    × OperationAgrees a (executed a + length (front a (k / SLOT_BITS))) (op_of_entry (slot_flipped a (k / SLOT_BITS) (k % SLOT_BITS)))
IsMaskedBit a IdEx k = (decoded_is_on_path a ≡ true) × IsIn IsDecodedPart (idex.field_of k) × OutcomeAgrees a (flip_in IdEx (state a) k)
IsMaskedBit a ExMem k = IsIn IsExecutedPart (exmem.field_of k) × OutcomeAgrees a (flip_in ExMem (state a) k)
IsMaskedBit a MemWb k = OutcomeAgrees a (flip_in MemWb (state a) k)
IsMaskedBit a _ k = ⊥

-- ---- U13: the cause of no trap

abbrev pub IsCause : ExMemField → ℕ → Type 0
IsCause executed_field.Cause i = ⊤
IsCause _ i = ⊥

abbrev pub IsUnusedCause : Moment → Structure → ℕ → Type 0
IsUnusedCause a ExMem k = ((state a).m.valid ≡ true) × (kind_of (state a).m.kind ≢ Trap) × IsIn IsCause (exmem.field_of k)
IsUnusedCause a _ k = ⊥
