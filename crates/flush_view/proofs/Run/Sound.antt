-- What each cycle keeps of the pipeline, whatever memory does: the waiting entries are as fetched, an occupied ID/EX holds its word's
-- decoding, and its operands are the registers' values unless MEM/WB or EX/MEM writes them.
use Rattle.std.proofs.Common.{◌≡◌, ℕ, Bool, true, false, List, [], ◌∷◌, ◌++◌, length, drop, arith, refl, ap, sym, ◌∙◌}
use Rattle.std.specs.Prelude.{◌==◌, nat_lt, slice_get, if◌then◌else◌}
use Rattle.std.specs.List.{All}
use Rattle.std.proofs.lemmas.Bool.Decides.{nat_tests}
use Rattle.std.proofs.lemmas.List.Elements.{All-drop, All-nil, All-push}
use Rattle.elf_load.specs.Image.{LoadedImage, fetch}
use Rattle.rv_table.specs.Effects.{written_register}
use Rattle.rv_table.specs.declared.action.Action.{Action}
use Rattle.rv_table.specs.declared.action.Action.TheVariants.{Nothing}
use Rattle.rv_isa.specs.Instruction.{given, op_at, put_reg, reg}
use Rattle.pipe_latch.specs.Forwarding.{late}
use Rattle.pipe_latch.specs.Latches.{DecodedLatch, ResultLatch, no_result, op_of_latch}
use Rattle.pipe_latch.proofs.Settled.{settled-operand}
use Rattle.inst_buf.specs.Entry.{Entry}
use Rattle.cyc_machine.specs.declared.fate.Fate.{Fate}
use Rattle.cyc_machine.specs.declared.fate.Fate.TheVariants.{Absent, Dropped, Stays, Goes}
use Rattle.cyc_machine.specs.Pipeline.{entries_after, fetched, filled, op_of_entry}
use Rattle.cyc_machine.specs.InFlight.{operand_held}
use Rattle.flush_view.proofs.Flush.Operands.{written-by}
use Rattle.flush_view.proofs.Flush.Path.{fetched-op, fetched-pc}
use Rattle.flush_view.proofs.Flush.Pipes.{Pipe, action_next, decoded_by, decoded_next, next_pipe, taken_by}

-- each entry is what is fetched at its address
abbrev pub AreFetched : LoadedImage → List Entry → Type 0
AreFetched image es = All (λ entry. entry ≡ fetched image entry.pc) es

-- a held operand is the register's value, unless M or W writes the register
abbrev pub IsHeld : Action → ResultLatch → (ℕ → ℕ) → ℕ → ℕ → Type 0
IsHeld m w registers rs held =
    held ≡ (if rs == 0 then 0 else (if rs == written_register m then held else (if rs == w.rd then held else registers rs)))

-- what ID/EX holds where it is occupied
pub record SoundLatch (image : LoadedImage) (d : DecodedLatch) (m : Action) (w : ResultLatch) (registers : ℕ → ℕ) : Type 0 where
  pub op : d.valid ≡ true → op_of_latch d ≡ op_at image d.pc
  pub a : d.valid ≡ true → IsHeld m w registers d.rs1 d.a
  pub b : d.valid ≡ true → IsHeld m w registers d.rs2 d.b

pub record Sound (p : Pipe) : Type 0 where
  pub waiting : AreFetched p.image p.waiting
  pub latch : SoundLatch p.image p.d p.m p.w p.registers

-- ---- the instruction buffer

fetched-same : (image : LoadedImage) (pc : ℕ) → fetched image pc ≡ fetched image (fetched image pc).pc
fetched-same image pc = ap (fetched image) (sym (fetched-pc pc (fetch image pc)))

filled-fetched : (image : LoadedImage) (pc : ℕ) (es : List Entry) → AreFetched image es → AreFetched image (filled image pc es)
filled-fetched image pc es h = go (nat_lt (length es) 4)
  where
    go : (b : Bool) → AreFetched image (if b then es ++ fetched image pc ∷ [] else es)
    go true = All-push (λ entry. entry ≡ fetched image entry.pc) es (fetched image pc) h (fetched-same image pc)
    go false = h

pub waiting-fetched : (image : LoadedImage) (f : Fate) (pc : ℕ) (es : List Entry) → AreFetched image es
    → AreFetched image (entries_after image f pc es)
unfolding entries_after
waiting-fetched image Absent pc es h = filled-fetched image pc (drop 1 es) (All-drop (λ entry. entry ≡ fetched image entry.pc) 1 es h)
waiting-fetched image Dropped pc es h = All-nil (λ entry. entry ≡ fetched image entry.pc)
waiting-fetched image Stays pc es h = filled-fetched image pc es h
waiting-fetched image (Goes a b) pc es h = filled-fetched image pc (drop 1 es) (All-drop (λ entry. entry ≡ fetched image entry.pc) 1 es h)

-- ---- held operands

taken-held : (m : Action) (v w : ResultLatch) (registers : ℕ → ℕ) (rs : ℕ)
    → IsHeld m v (put_reg w.rd w.value registers) rs (if rs == 0 then 0 else late w rs (registers rs))
unfolding late
taken-held m v w registers rs = grind (arith, nat_tests)

stays-held-goes : (m : Action) (w : ResultLatch) (value : ℕ) (registers : ℕ → ℕ) (rs held : ℕ) → IsHeld m w registers rs held
    → IsHeld Nothing (record { rd = written_register m; value = value }) (put_reg w.rd w.value registers) rs (late w rs held)
unfolding late
stays-held-goes m w value registers rs held h = grind (arith, nat_tests, h)

stays-held-waits : (m : Action) (w : ResultLatch) (registers : ℕ → ℕ) (rs held : ℕ) → IsHeld m w registers rs held
    → IsHeld m no_result (put_reg w.rd w.value registers) rs (late w rs held)
unfolding late
stays-held-waits m w registers rs held h = grind (arith, nat_tests, h)

read_by : (rs wm ww held written value below x : ℕ) → held ≡ (if rs == 0 then 0 else (if rs == wm then held else (if rs == ww then held else below)))
    → ((rs == 0) ≡ false → x ≡ (if rs == wm then written else (if rs == ww then value else below)))
    → (if rs == 0 then held else (if rs == wm then written else (if rs == ww then value else held))) ≡ (if rs == 0 then 0 else x)
read_by rs wm ww held written value below x h e = grind (arith, nat_tests)

put-at : (rd value : ℕ) (registers : ℕ → ℕ) (rs : ℕ) → (rs == 0) ≡ false → put_reg rd value registers rs ≡ (if rs == rd then value else registers rs)
put-at rd value registers rs h = grind (arith, nat_tests)

-- an operand is what the register holds after W and M
pub held-operand : (image : LoadedImage) (m : Action) (w : ResultLatch) (memory registers : ℕ → ℕ) (rs held : ℕ) → IsHeld m w registers rs held
    → operand_held image m w memory rs held ≡ reg (put_reg (written_register m) (given image m memory) (put_reg w.rd w.value registers)) rs
held-operand image m w memory registers rs held h =
    settled-operand m w rs held (given image m memory) (written-by image m memory)
    ∙ read_by rs (written_register m) w.rd held (given image m memory) w.value (registers rs) _ h
    (λ e. put-at (written_register m) (given image m memory) (put_reg w.rd w.value registers) rs e
    ∙ ap (λ n. if rs == written_register m then given image m memory else n) (put-at w.rd w.value registers rs e))

-- ---- ID/EX

pub empty-sound : (image : LoadedImage) (d : DecodedLatch) (m : Action) (w : ResultLatch) (registers : ℕ → ℕ) → d.valid ≡ false
    → SoundLatch image d m w registers
empty-sound image d m w registers e = record { op = λ v. absurd cc; a = λ v. absurd cc; b = λ v. absurd cc }

entry-sound : (image : LoadedImage) (e : Entry) (m : Action) (v w : ResultLatch) (registers : ℕ → ℕ) → e ≡ fetched image e.pc
    → SoundLatch image (decoded_by e w registers) m v (put_reg w.rd w.value registers)
entry-sound image e m v w registers h = record {
  op = λ x. ap op_of_entry h ∙ fetched-op image e.pc;
  a = λ x. taken-held m v w registers (op_of_entry e).rs1;
  b = λ x. taken-held m v w registers (op_of_entry e).rs2;
}

taken-sound : (image : LoadedImage) (es : List Entry) (m : Action) (v w : ResultLatch) (registers : ℕ → ℕ) → AreFetched image es
    → SoundLatch image (taken_by (slice_get es 0) w registers) m v (put_reg w.rd w.value registers)
taken-sound image [] m v w registers h = empty-sound image _ m v (put_reg w.rd w.value registers) refl
taken-sound image (e ∷ es) m v w registers h = entry-sound image e m v w registers (h 0 e (omega arith))

abbrev NextLatch : Fate → Bool → ℕ → Pipe → Type 0
NextLatch f goes value p =
    SoundLatch p.image (decoded_next f p.d p.waiting p.w p.registers) (action_next f goes p)
    (if goes then record { rd = written_register p.m; value = value } else no_result) (put_reg p.w.rd p.w.value p.registers)

stays-sound : (goes : Bool) (value : ℕ) (p : Pipe) → SoundLatch p.image p.d p.m p.w p.registers → NextLatch Stays goes value p
stays-sound true value p h = record {
  op = h.op;
  a = λ v. stays-held-goes p.m p.w value p.registers p.d.rs1 p.d.a (h.a v);
  b = λ v. stays-held-goes p.m p.w value p.registers p.d.rs2 p.d.b (h.b v);
}
stays-sound false value p h = record {
  op = h.op;
  a = λ v. stays-held-waits p.m p.w p.registers p.d.rs1 p.d.a (h.a v);
  b = λ v. stays-held-waits p.m p.w p.registers p.d.rs2 p.d.b (h.b v);
}

latch-sound : (f : Fate) (goes : Bool) (value : ℕ) (p : Pipe) → Sound p → NextLatch f goes value p
latch-sound Absent goes value p h = taken-sound p.image p.waiting _ _ p.w p.registers h.waiting
latch-sound Dropped goes value p h = empty-sound p.image _ _ _ _ refl
latch-sound Stays goes value p h = stays-sound goes value p h.latch
latch-sound (Goes a b) goes value p h = taken-sound p.image p.waiting _ _ p.w p.registers h.waiting

pub sound-next : (f : Fate) (goes : Bool) (value pc : ℕ) (p : Pipe) → Sound p → Sound (next_pipe f goes value pc p)
sound-next f goes value pc p h = record { waiting = waiting-fetched p.image f p.pc p.waiting h.waiting; latch = latch-sound f goes value p h }
