-- The pipeline alone: its registers as a function, EX/MEM as an action and the instruction buffer as a list. Memory is any
-- function, of which a cycle sees whether EX/MEM leaves and what it gives.
use Rattle.std.proofs.Common.{◌≡◌, ℕ, ◌+◌, Bool, true, false, List, [], ◌∷◌, ◌++◌, length, map, drop, refl, ap, sym, ◌∙◌, append-nil}
use Rattle.std.specs.Prelude.{Option, Some, None, ◌==◌, ◌&&◌, is_none, nat_lt, slice_get, if◌then◌else◌}
use Rattle.elf_load.specs.Image.{LoadedImage}
use Rattle.rv_table.specs.Effects.{written_register}
use Rattle.rv_table.specs.declared.op.Op.{Op}
use Rattle.rv_table.specs.declared.action.Action.{Action}
use Rattle.rv_table.specs.declared.action.Action.TheVariants.{Nothing}
use Rattle.rv_isa.specs.Instruction.{State as Arch, Log, action_in, completed, given, performed, put_reg, reg}
use Rattle.pipe_latch.specs.Forwarding.{late}
use Rattle.pipe_latch.specs.Latches.{DecodedLatch, ResultLatch, no_decoded, no_result, op_of_latch}
use Rattle.inst_buf.specs.Entry.{Entry}
use Rattle.cyc_machine.specs.declared.fate.Fate.{Fate}
use Rattle.cyc_machine.specs.declared.fate.Fate.TheVariants.{Absent, Dropped, Stays, Goes}
use Rattle.cyc_machine.specs.Pipeline.{counted, entries_after, fetched, filled, issued_after, npc_after, op_of_entry, stalled}
use Rattle.rv_table.specs.Operations.{delay_of}
use Rattle.flush_view.specs.Flush.{completed_path, item_of_entry, path_of}
use Rattle.cyc_machine.specs.InFlight.{Item, completed_item, item_of_latch, operand_held}
use Rattle.flush_view.proofs.Flush.Operands.{held-taken}
use Rattle.flush_view.proofs.Flush.Path.{added}

pub record Pipe : Type 0 where
  pub image : LoadedImage
  pub pc : ℕ
  pub npc : ℕ
  pub waiting : List Entry
  pub d : DecodedLatch
  pub m : Action
  pub w : ResultLatch
  pub registers : ℕ → ℕ
  pub cycle : ℕ
  pub issued : ℕ

abbrev pub latched_pipe : Pipe → (ℕ → ℕ) → List ℕ → Log → Arch
latched_pipe p memory clocks log =
    performed p.image p.m (record {
      registers = put_reg p.w.rd p.w.value p.registers;
      memory = memory;
      pc = p.npc;
      count = p.issued;
      clocks = clocks;
      log = log;
      stop = None;
    })

abbrev pub flush_pipe : Pipe → (ℕ → ℕ) → List ℕ → Log → Arch
flush_pipe p memory clocks log = completed_path p.image (path_of p.image p.m p.w memory p.d p.waiting) (latched_pipe p memory clocks log)

-- ---- the next pipeline

abbrev pub decoded_by : Entry → ResultLatch → (ℕ → ℕ) → DecodedLatch
decoded_by e w registers =
    let op : Op = op_of_entry e in
    record {
      valid = true;
      pc = e.pc;
      op = op.code;
      rd = op.rd;
      rs1 = op.rs1;
      rs2 = op.rs2;
      a = if op.rs1 == 0 then 0 else late w op.rs1 (registers op.rs1);
      b = if op.rs2 == 0 then 0 else late w op.rs2 (registers op.rs2);
      imm = op.imm;
      count = delay_of op.code;
    }

abbrev pub taken_by : Option Entry → ResultLatch → (ℕ → ℕ) → DecodedLatch
taken_by None w registers = no_decoded
taken_by (Some e) w registers = decoded_by e w registers

abbrev pub decoded_next : Fate → DecodedLatch → List Entry → ResultLatch → (ℕ → ℕ) → DecodedLatch
decoded_next Dropped d waiting w registers = no_decoded
decoded_next Stays d waiting w registers = stalled d w
decoded_next Absent d waiting w registers = taken_by (slice_get waiting 0) w registers
decoded_next (Goes a b) d waiting w registers = taken_by (slice_get waiting 0) w registers

abbrev pub action_next : Fate → Bool → Pipe → Action
action_next (Goes a b) goes p = action_in p.image (op_of_latch p.d) p.d.pc a (counted p.d p.cycle p.issued b)
action_next _ goes p = if goes then Nothing else p.m

abbrev pub next_pipe : Fate → Bool → ℕ → ℕ → Pipe → Pipe
next_pipe f goes value pc p =
    record {
      image = p.image;
      pc = pc;
      npc = npc_after f p.d p.cycle p.issued p.npc;
      waiting = entries_after p.image f p.pc p.waiting;
      d = decoded_next f p.d p.waiting p.w p.registers;
      m = action_next f goes p;
      w = if goes then record { rd = written_register p.m; value = value } else no_result;
      registers = put_reg p.w.rd p.w.value p.registers;
      cycle = p.cycle + 1;
      issued = issued_after f p.issued;
    }

-- ---- the path

map-push : (es : List Entry) (e : Entry) → map item_of_entry (es ++ e ∷ []) ≡ map item_of_entry es ++ item_of_entry e ∷ []
map-push [] e = refl
map-push (x ∷ es) e = ap (λ (is : List Item). item_of_entry x ∷ is) (map-push es e)

-- the path once an entry is fetched
pub path-filled : (image : LoadedImage) (m : Action) (w : ResultLatch) (memory : ℕ → ℕ) (d : DecodedLatch) (pc : ℕ) (rest : List Entry)
    → path_of image m w memory d (filled image pc rest) ≡ path_of image m w memory d rest ++ added image pc (length rest)
path-filled image m w memory d pc rest = in_front d.valid (entries-filled (nat_lt (length rest) 4))
  where
    entries-filled : (b : Bool) → map item_of_entry (if b then rest ++ fetched image pc ∷ [] else rest)
        ≡ map item_of_entry rest ++ (if b then item_of_entry (fetched image pc) ∷ [] else [])
    entries-filled true = map-push rest (fetched image pc)
    entries-filled false = sym (append-nil (map item_of_entry rest))

    in_front : (v : Bool) → map item_of_entry (filled image pc rest) ≡ map item_of_entry rest ++ added image pc (length rest)
        → (if v then item_of_latch image m w memory d ∷ map item_of_entry (filled image pc rest) else map item_of_entry (filled image pc rest))
        ≡ (if v then item_of_latch image m w memory d ∷ map item_of_entry rest else map item_of_entry rest) ++ added image pc (length rest)
    in_front true e = ap (λ (is : List Item). item_of_latch image m w memory d ∷ is) e
    in_front false e = e

-- two items with the same address and the same completion, in front of one path
below_by : (image : LoadedImage) (pc place : ℕ) (x y : Arch) (items : List Item) (at : Arch) → pc ≡ place → x ≡ y
    → (if is_none at.stop && pc == at.pc then completed_path image items x else at)
    ≡ (if is_none at.stop && place == at.pc then completed_path image items y else at)
below_by image pc place x y items at e f = rw (e, f) refl

below : (image : LoadedImage) (i j : Item) (items : List Item) (at : Arch) → i.pc ≡ j.pc
    → completed_item image i at ≡ completed_item image j at → completed_path image (i ∷ items) at ≡ completed_path image (j ∷ items) at
unfolding completed_path
below image i j items at e f = below_by image i.pc j.pc (completed_item image i at) (completed_item image j at) items at e f

pub completed_with : (image : LoadedImage) (op : Op) (pc a b x y : ℕ) (at : Arch) → a ≡ x → b ≡ y
    → completed image op pc a b at ≡ completed image op pc x y at
completed_with image op pc a b x y at e f = rw (e, f) refl

-- ID takes the first entry
pub path-taken : (image : LoadedImage) (x : Action) (w old : ResultLatch) (memory : ℕ → ℕ) (registers : ℕ → ℕ) (es : List Entry) (more : List Item)
    (at : Arch) → at.registers ≡ put_reg (written_register x) (given image x memory) (put_reg w.rd w.value (put_reg old.rd old.value registers))
    → completed_path image (path_of image x w memory (taken_by (slice_get es 0) old registers) (drop 1 es) ++ more) at ≡ completed_path image
    (map item_of_entry es ++ more) at
path-taken image x w old memory registers [] more at h = refl
path-taken image x w old memory registers (e ∷ es) more at h =
    below image (item_of_latch image x w memory (decoded_by e old registers)) (item_of_entry e) (map item_of_entry es ++ more) at refl
    (completed_with image (op_of_entry e) e.pc _ _ _ _ at (reads (op_of_entry e).rs1) (reads (op_of_entry e).rs2))
  where
    reads : (rs : ℕ) → operand_held image x w memory rs (if rs == 0 then 0 else late old rs (registers rs)) ≡ reg at.registers rs
    reads rs = held-taken image x w old memory registers rs ∙ ap (λ (f : ℕ → ℕ). reg f rs) (sym h)

-- D that stays
pub path-stalled : (image : LoadedImage) (m x : Action) (w next : ResultLatch) (memory after : ℕ → ℕ) (d : DecodedLatch) (rest : List Entry)
    (more : List Item) (at : Arch) → ((rs held : ℕ) → operand_held image x next after rs (late w rs held) ≡ operand_held image m w memory rs held)
    → completed_path image (path_of image x next after (stalled d w) rest ++ more) at
    ≡ completed_path image (path_of image m w memory d rest ++ more) at
path-stalled image m x w next memory after d rest more at same = go d.valid
  where
    go : (v : Bool)
        → completed_path image ((if v then item_of_latch image x next after (stalled d w) ∷ map item_of_entry rest else map item_of_entry rest) ++ more)
        at ≡ completed_path image ((if v then item_of_latch image m w memory d ∷ map item_of_entry rest else map item_of_entry rest) ++ more) at
    go true =
        below image (item_of_latch image x next after (stalled d w)) (item_of_latch image m w memory d) (map item_of_entry rest ++ more) at refl
        (completed_with image (op_of_latch d) d.pc _ _ _ _ at (same d.rs1 d.a) (same d.rs2 d.b))
    go false = refl
