-- Fields of empty places, and the cause of no trap: no cycle reads them.
use Rattle.std.proofs.Common.{◌≡◌, ◌≢◌, ◌/◌, ◌<◌, ℕ, Bool, true, false, cond, refl, sym, ap, ◌∙◌, arith, lit<}
use Rattle.std.specs.Prelude.{◌==◌, Option, Some, None, if◌then◌else◌}
use Rattle.std.proofs.lemmas.Bool.{eqb-true, true≢false}
use Rattle.std.proofs.lemmas.Nat.Bits.{same_from_bits_below}
use Rattle.bit_field.specs.Lanes.{has_lane, lane_byte}
use Rattle.bit_field.specs.Layouts.{flip}
use Rattle.pipe_latch.specs.DecodedBits as idex
use Rattle.pipe_latch.specs.ExecutedBits as exmem
use Rattle.pipe_latch.specs.ResultBits as memwb
use Rattle.pipe_latch.specs.LatchedActions.{kind_of}
use Rattle.pipe_latch.specs.Latches.{DecodedLatch, ExecutedLatch, ResultLatch}
use Rattle.pipe_latch.specs.declared.id_ex.IdExField.{IdExField}
use Rattle.pipe_latch.specs.declared.id_ex.IdExField.TheVariants as decoded_field
use Rattle.pipe_latch.specs.declared.ex_mem.ExMemField.{ExMemField}
use Rattle.pipe_latch.specs.declared.ex_mem.ExMemField.TheVariants as executed_field
use Rattle.pipe_latch.specs.declared.mem_wb.MemWbField.{MemWbField}
use Rattle.pipe_latch.specs.declared.mem_wb.MemWbField.TheVariants as result_field
use Rattle.pipe_latch.specs.declared.kinds.ExMemKind.TheVariants.{Trap}
use Rattle.inst_buf.specs.Entry.{Entry as Fetched}
use Rattle.inst_buf.specs.EntryBits as ib
use Rattle.inst_buf.specs.declared.slots.SlotField.{SlotField}
use Rattle.inst_buf.specs.declared.slots.SlotField.TheVariants as slot_field
use Rattle.store_buf.specs.EntryBits as sb
use Rattle.store_buf.specs.Entry.{Entry as Pending, no_entry as no_pending}
use Rattle.store_buf.specs.declared.pending.PendingField.{PendingField}
use Rattle.store_buf.specs.declared.pending.PendingField.TheVariants as pending_field
use Rattle.flush_view.specs.Ignored.{masked_byte, masked_word, read_of_decoded, read_of_executed, read_of_fetched, read_of_pending, read_of_result}
use Rattle.flush_view.proofs.Memory.Loads.{byte_below}
use Rattle.ace_law.specs.PipelineRules.{IsCause, IsIn, IsUnusedDecoded, IsUnusedExecuted, IsUnusedFetched, IsUnusedPending, IsUnusedResult}
use Rattle.ace_law.proofs.StoreRules.{lane-other}

-- ---- each place by itself

pub empty-fetched : (e : Fetched) (o : Option (SlotField × ℕ)) (k : ℕ) → ib.field_of k ≡ o → e.valid ≡ false → IsIn IsUnusedFetched o
    → read_of_fetched (ib.flipped e k) ≡ read_of_fetched e
empty-fetched e (Some (slot_field.Fault, i)) k is off named = rw (is, off) refl
empty-fetched e (Some (slot_field.Pc, i)) k is off named = rw (is, off) refl
empty-fetched e (Some (slot_field.Word, i)) k is off named = rw (is, off) refl
empty-fetched e (Some (slot_field.Valid, i)) k is off named = absurd named
empty-fetched e None k is off named = absurd named

pub empty-decoded : (d : DecodedLatch) (o : Option (IdExField × ℕ)) (k : ℕ) → idex.field_of k ≡ o → d.valid ≡ false → IsIn IsUnusedDecoded o
    → read_of_decoded (idex.flipped d k) ≡ read_of_decoded d
empty-decoded d (Some (decoded_field.Valid, i)) k is off named = absurd named
empty-decoded d (Some (decoded_field.Pc, i)) k is off named = rw (is, off) refl
empty-decoded d (Some (decoded_field.Op, i)) k is off named = rw (is, off) refl
empty-decoded d (Some (decoded_field.Rd, i)) k is off named = rw (is, off) refl
empty-decoded d (Some (decoded_field.Rs1, i)) k is off named = rw (is, off) refl
empty-decoded d (Some (decoded_field.Rs2, i)) k is off named = rw (is, off) refl
empty-decoded d (Some (decoded_field.A, i)) k is off named = rw (is, off) refl
empty-decoded d (Some (decoded_field.B, i)) k is off named = rw (is, off) refl
empty-decoded d (Some (decoded_field.Imm, i)) k is off named = rw (is, off) refl
empty-decoded d (Some (decoded_field.Count, i)) k is off named = absurd named
empty-decoded d None k is off named = absurd named

pub empty-executed : (m : ExecutedLatch) (o : Option (ExMemField × ℕ)) (k : ℕ) → exmem.field_of k ≡ o → m.valid ≡ false → IsIn IsUnusedExecuted o
    → read_of_executed (exmem.flipped m k) ≡ read_of_executed m
empty-executed m (Some (executed_field.Valid, i)) k is off named = absurd named
empty-executed m (Some (executed_field.Kind, i)) k is off named = rw (is, off) refl
empty-executed m (Some (executed_field.Rd, i)) k is off named = rw (is, off) refl
empty-executed m (Some (executed_field.X, i)) k is off named = rw (is, off) refl
empty-executed m (Some (executed_field.Y, i)) k is off named = rw (is, off) refl
empty-executed m (Some (executed_field.Cause, i)) k is off named = rw (is, off) refl
empty-executed m None k is off named = absurd named

pub empty-result : (w : ResultLatch) (o : Option (MemWbField × ℕ)) (k : ℕ) → memwb.field_of k ≡ o → w.rd ≡ 0 → IsIn IsUnusedResult o
    → read_of_result (memwb.flipped w k) ≡ read_of_result w
empty-result w (Some (result_field.Value, i)) k is off named = rw (is, off) refl
empty-result w (Some (result_field.Rd, i)) k is off named = absurd named
empty-result w None k is off named = absurd named

-- ---- a store

lane-same : (value j lane : ℕ) → lane < 4 → (lane ≡ j / 8 → ⊥) → lane_byte (flip value j) lane ≡ lane_byte value lane
lane-same value j lane h off =
    same_from_bits_below 8 (lane_byte (flip value j) lane) (lane_byte value lane) (byte_below (flip value j) lane) (byte_below value lane)
    (λ b l. lane-other value j lane b h l (λ at. off (omega (arith, at, l))))

masked-same : (mask value j lane : ℕ) → lane < 4 → has_lane mask (j / 8) ≡ false → masked_byte mask (flip value j) lane ≡ masked_byte mask value lane
masked-same mask value j lane h off = go (has_lane mask lane) refl
  where
    go : (b : Bool) → has_lane mask lane ≡ b → cond b (lane_byte (flip value j) lane) 0 ≡ cond b (lane_byte value lane) 0
    go true e = lane-same value j lane h (λ at. true≢false (sym e ∙ ap (has_lane mask) at ∙ off))
    go false e = refl

unused-value : (mask value j : ℕ) → has_lane mask (j / 8) ≡ false → masked_word mask (flip value j) ≡ masked_word mask value
unused-value mask value j off = rw (
  masked-same mask value j 0 (lit< tt) off,
  masked-same mask value j 1 (lit< tt) off,
  masked-same mask value j 2 (lit< tt) off,
  masked-same mask value j 3 (lit< tt) off,
) refl

value-read : (e : Pending) (j : ℕ) → has_lane e.mask (j / 8) ≡ false → read_of_pending (record e { value = flip e.value j }) ≡ read_of_pending e
value-read e j off = ap (λ (v : ℕ). if e.mask == 0 then no_pending else record e { value = v }) (unused-value e.mask e.value j off)

pub empty-pending : (e : Pending) (o : Option (PendingField × ℕ)) (k : ℕ) → sb.field_of k ≡ o → IsIn (IsUnusedPending e) o
    → read_of_pending (sb.flipped e k) ≡ read_of_pending e
empty-pending e (Some (pending_field.Mask, i)) k is named = absurd named
empty-pending e (Some (pending_field.Addr, i)) k is named = rw (is, named) refl
empty-pending e (Some (pending_field.Value, i)) k is named = rw is (value-read e i named)
empty-pending e None k is named = absurd named

-- ---- the cause of no trap

kind-no : (m : ExecutedLatch) → kind_of m.kind ≢ Trap → (m.kind == 11) ≡ false
unfolding kind_of
kind-no m other = go (m.kind == 11) refl
  where
    go : (b : Bool) → (m.kind == 11) ≡ b → (m.kind == 11) ≡ false
    go true e = absurd (other (ap kind_of (eqb-true m.kind 11 e)))
    go false e = e

pub unused-cause : (m : ExecutedLatch) (o : Option (ExMemField × ℕ)) (k : ℕ) → exmem.field_of k ≡ o → kind_of m.kind ≢ Trap → IsIn IsCause o
    → read_of_executed (exmem.flipped m k) ≡ read_of_executed m
unused-cause m (Some (executed_field.Cause, i)) k is other named = rw (is, kind-no m other) refl
unused-cause m (Some (executed_field.Valid, i)) k is other named = absurd named
unused-cause m (Some (executed_field.Kind, i)) k is other named = absurd named
unused-cause m (Some (executed_field.Rd, i)) k is other named = absurd named
unused-cause m (Some (executed_field.X, i)) k is other named = absurd named
unused-cause m (Some (executed_field.Y, i)) k is other named = absurd named
unused-cause m None k is other named = absurd named
