-- The next latches come of what is read of the latches.
use Rattle.std.proofs.Common.{◌≡◌, ℕ, Bool, true, false, List, refl, sym, ap, ◌∙◌}
use Rattle.std.specs.Prelude.{Option, Some, None, slice_get}
use Rattle.elf_load.specs.Image.{LoadedImage}
use Rattle.inst_buf.specs.Entry.{Entry}
use Rattle.pipe_latch.specs.Latches.{DecodedLatch, ExecutedLatch, ResultLatch}
use Rattle.cyc_machine.specs.Pipeline.{decoded, decoded_after, executed_after, lesson, npc_after, op_of_entry, register, taken, trained_by, written_registers}
use Rattle.cyc_machine.specs.State.{State}
use Rattle.cyc_machine.specs.declared.fate.Fate.{Fate}
use Rattle.cyc_machine.specs.declared.fate.Fate.TheVariants.{Absent, Dropped, Stays, Goes}
use Rattle.flush_view.specs.Ignored.{read_of_executed, read_of_result}
use Rattle.flush_view.proofs.Lockstep.Latches.{late-read, written-read}

-- ---- an empty ID/EX

pub npc-empty : (d e : DecodedLatch) (cycle issued npc : ℕ) → npc_after Absent d cycle issued npc ≡ npc_after Absent e cycle issued npc
unfolding npc_after
npc-empty d e cycle issued npc = refl

pub tables-empty : (d e : DecodedLatch) (cycle issued : ℕ) (s : State)
    → trained_by (lesson Absent d cycle issued) d.pc s.tables ≡ trained_by (lesson Absent e cycle issued) e.pc s.tables
unfolding lesson
tables-empty d e cycle issued s = refl

pub decoded-empty : (d e : DecodedLatch) (entries : List Entry) (w : ResultLatch) (registers : List ℕ)
    → decoded_after Absent d entries w registers ≡ decoded_after Absent e entries w registers
unfolding decoded_after
decoded-empty d e entries w registers = refl

pub executed-empty : (image : LoadedImage) (goes : Bool) (d e : DecodedLatch) (cycle issued : ℕ) (m : ExecutedLatch)
    → executed_after image Absent goes d cycle issued m ≡ executed_after image Absent goes e cycle issued m
unfolding executed_after
executed-empty image goes d e cycle issued m = refl

-- ---- MEM/WB

taken-read : (o : Option Entry) (w : ResultLatch) (registers : List ℕ) → taken o (read_of_result w) registers ≡ taken o w registers
unfolding decoded
taken-read None w registers = refl
taken-read (Some e) w registers =
    rw (late-read w (op_of_entry e).rs1 (register registers (op_of_entry e).rs1), late-read w (op_of_entry e).rs2 (register registers (op_of_entry e).rs2))
    refl

decoded-read : (f : Fate) (d : DecodedLatch) (entries : List Entry) (w : ResultLatch) (registers : List ℕ)
    → decoded_after f d entries (read_of_result w) registers ≡ decoded_after f d entries w registers
unfolding decoded_after
decoded-read Dropped d entries w registers = refl
decoded-read Stays d entries w registers = rw (late-read w d.rs1 d.a, late-read w d.rs2 d.b) refl
decoded-read Absent d entries w registers = taken-read (slice_get entries 0) w registers
decoded-read (Goes a b) d entries w registers = taken-read (slice_get entries 0) w registers

module _ (v w : ResultLatch) (same : read_of_result v ≡ read_of_result w) where
  pub decoded-same : (f : Fate) (d : DecodedLatch) (entries : List Entry) (registers : List ℕ)
      → decoded_after f d entries v registers ≡ decoded_after f d entries w registers
  decoded-same f d entries registers =
      sym (decoded-read f d entries v registers) ∙ ap (λ (r : ResultLatch). decoded_after f d entries r registers) same
      ∙ decoded-read f d entries w registers

  pub registers-same : (registers : List ℕ) → written_registers v registers ≡ written_registers w registers
  registers-same registers = sym (written-read v registers) ∙ ap (λ (r : ResultLatch). written_registers r registers) same ∙ written-read w registers

-- ---- EX/MEM

pub executed-same : (image : LoadedImage) (f : Fate) (goes : Bool) (d : DecodedLatch) (cycle issued : ℕ) (m n : ExecutedLatch)
    → read_of_executed m ≡ read_of_executed n → read_of_executed (executed_after image f goes d cycle issued m)
    ≡ read_of_executed (executed_after image f goes d cycle issued n)
unfolding executed_after
executed-same image (Goes a b) goes d cycle issued m n same = refl
executed-same image Absent true d cycle issued m n same = refl
executed-same image Absent false d cycle issued m n same = same
executed-same image Dropped true d cycle issued m n same = refl
executed-same image Dropped false d cycle issued m n same = same
executed-same image Stays true d cycle issued m n same = refl
executed-same image Stays false d cycle issued m n same = same
