-- The machine's pipeline as one with functions, and its next state.
use Rattle.std.proofs.Common.{◌≡◌, inl, inr, ℕ, ◌+◌, ◌-◌, ◌<◌, Bool, true, false, List, [], ◌∷◌, ◌++◌, length, drop, arith, refl, ap, ◌∙◌}
use Rattle.std.specs.Prelude.{Option, Some, None, ◌==◌, nat_lt, slice_get, slice_index, slice_set, if◌then◌else◌}
use Rattle.std.specs.List.{All}
use Rattle.std.proofs.Math.Path.{fun_ext}
use Rattle.std.proofs.lemmas.Bool.{cases_eq}
use Rattle.std.proofs.lemmas.Bool.Decides.{nat_tests}
use Rattle.std.proofs.lemmas.List.{get_or-set_same, get_or-set_other}
use Rattle.std.proofs.lemmas.List.Elements.{All-drop, All-nil, All-push}
use Rattle.elf_load.specs.Image.{LoadedImage, fetch}
use Rattle.rv_table.specs.declared.action.Action.{Action}
use Rattle.rv_isa.specs.Instruction.{put_reg}
use Rattle.pipe_latch.specs.Latches.{DecodedLatch, ResultLatch, no_result}
use Rattle.pipe_latch.specs.LatchedActions.{action_of}
use Rattle.pipe_latch.proofs.Latches.{action_of-executed, action_of-no_executed}
use Rattle.inst_buf.specs.Buffer.{entries, packed}
use Rattle.inst_buf.specs.Entry.{Entry}
use Rattle.inst_buf.proofs.Packed.{entries-packed, entries_valid}
use Rattle.cyc_machine.specs.declared.fate.Fate.{Fate}
use Rattle.cyc_machine.specs.declared.fate.Fate.TheVariants.{Absent, Dropped, Stays, Goes}
use Rattle.cyc_machine.specs.declared.memory_stage.Served.{Served}
use Rattle.cyc_machine.specs.Cycle.{action_in_m, cycle, cycled, fate, next_fetch, served_m}
use Rattle.cyc_machine.specs.Memory.{result_after}
use Rattle.rv_table.specs.Effects.{written_register}
use Rattle.cyc_machine.specs.Pipeline.{issued_after, npc_after, decoded, decoded_after, entries_after, entry_of_word}
use Rattle.cyc_machine.specs.Pipeline.{executed_after, fetched, filled, register, taken, written_registers}
use Rattle.cyc_machine.specs.State.{State}
use Rattle.flush_view.proofs.Flush.Pipes.{Pipe, action_next, decoded_next, next_pipe, taken_by}
use Rattle.cyc_machine.specs.Sizes.{IsSteady}

abbrev pub piped : State → Pipe
piped s =
    record {
      image = s.image;
      pc = s.pc;
      npc = s.npc;
      waiting = entries s.buffer;
      d = s.d;
      m = action_in_m s;
      w = s.w;
      registers = register s.registers;
      cycle = s.cycle;
      issued = s.issued;
    }

-- ---- EX/MEM

action-after : (f : Fate) (s : State) (goes : Bool)
    → action_of (executed_after s.image f goes s.d s.cycle s.issued s.m) ≡ action_next f goes (piped s)
unfolding executed_after
action-after (Goes a b) s goes = action_of-executed s.image s.d a _
action-after Absent s true = action_of-no_executed
action-after Absent s false = refl
action-after Dropped s true = action_of-no_executed
action-after Dropped s false = refl
action-after Stays s true = action_of-no_executed
action-after Stays s false = refl

-- ---- ID/EX

taken-after : (o : Option Entry) (w : ResultLatch) (registers : List ℕ) → taken o w registers ≡ taken_by o w (register registers)
unfolding decoded
taken-after None w registers = refl
taken-after (Some e) w registers = refl

decoded-after : (f : Fate) (d : DecodedLatch) (waiting : List Entry) (w : ResultLatch) (registers : List ℕ)
    → decoded_after f d waiting w registers ≡ decoded_next f d waiting w (register registers)
unfolding decoded_after
decoded-after Absent d waiting w registers = taken-after (slice_get waiting 0) w registers
decoded-after Dropped d waiting w registers = refl
decoded-after Stays d waiting w registers = refl
decoded-after (Goes a b) d waiting w registers = taken-after (slice_get waiting 0) w registers

-- ---- the instruction buffer

abbrev AreValid : List Entry → Type 0
AreValid es = All (λ e. e.valid ≡ true) es

fetched_valid : (pc : ℕ) (o : Option ℕ) → (entry_of_word pc o).valid ≡ true
fetched_valid pc (Some word) = refl
fetched_valid pc None = refl

filled_valid : (image : LoadedImage) (pc : ℕ) (es : List Entry) → AreValid es → AreValid (filled image pc es)
filled_valid image pc es valid = go (nat_lt (length es) 4)
  where
    go : (b : Bool) → AreValid (if b then es ++ fetched image pc ∷ [] else es)
    go true = All-push (λ e. e.valid ≡ true) es (fetched image pc) valid (fetched_valid pc (fetch image pc))
    go false = valid

after_valid : (image : LoadedImage) (f : Fate) (pc : ℕ) (es : List Entry) → AreValid es → AreValid (entries_after image f pc es)
unfolding entries_after
after_valid image Absent pc es valid = filled_valid image pc (drop 1 es) (All-drop (λ e. e.valid ≡ true) 1 es valid)
after_valid image Dropped pc es valid = All-nil (λ e. e.valid ≡ true)
after_valid image Stays pc es valid = filled_valid image pc es valid
after_valid image (Goes a b) pc es valid = filled_valid image pc (drop 1 es) (All-drop (λ e. e.valid ≡ true) 1 es valid)

pub waiting-after : (image : LoadedImage) (f : Fate) (pc : ℕ) (slots : List Entry)
    → entries (packed (entries_after image f pc (entries slots))) ≡ entries_after image f pc (entries slots)
waiting-after image f pc slots =
    entries-packed (entries_after image f pc (entries slots)) (after_valid image f pc (entries slots) (entries_valid slots))

-- ---- the register file

register_put : (rd value : ℕ) (registers : List ℕ) (r : ℕ) → length registers ≡ 31 → rd < 32 → (rd == 0) ≡ false
    → (if r == 0 then 0 else slice_index (slice_set registers (rd - 1) value) (r - 1))
    ≡ (if r == rd then value else (if r == 0 then 0 else slice_index registers (r - 1)))
register_put rd value registers r long small some =
    elim (cases_eq (r - 1) (rd - 1)) [
      | inl e ↦ let same =
          get_or-set_same registers (rd - 1) value 0 (grind (arith, nat_tests))
          in go_same e (ap (λ n. slice_index (slice_set registers (rd - 1) value) n) e ∙ same)
      | inr ne ↦ let other = get_or-set_other registers (rd - 1) (r - 1) value 0 ne in go_other ne other
    ]
  where
    go_same : r - 1 ≡ rd - 1 → slice_index (slice_set registers (rd - 1) value) (r - 1) ≡ value
        → (if r == 0 then 0 else slice_index (slice_set registers (rd - 1) value) (r - 1))
        ≡ (if r == rd then value else (if r == 0 then 0 else slice_index registers (r - 1)))
    go_same e h = grind (arith, nat_tests)

    go_other : (r - 1 ≡ rd - 1 → ⊥) → slice_index (slice_set registers (rd - 1) value) (r - 1) ≡ slice_index registers (r - 1)
        → (if r == 0 then 0 else slice_index (slice_set registers (rd - 1) value) (r - 1))
        ≡ (if r == rd then value else (if r == 0 then 0 else slice_index registers (r - 1)))
    go_other ne h = grind (arith, nat_tests)

registers-after : (w : ResultLatch) (registers : List ℕ) → length registers ≡ 31 → w.rd < 32
    → register (written_registers w registers) ≡ put_reg w.rd w.value (register registers)
unfolding register written_registers
registers-after w registers long small = go (w.rd == 0) refl
  where
    go : (b : Bool) → (w.rd == 0) ≡ b → register (if w.rd == 0 then registers else slice_set registers (w.rd - 1) w.value)
        ≡ (if w.rd == 0 then register registers else (λ r. if r == w.rd then w.value else register registers r))
    go true h = rw h refl
    go false h = rw h (fun_ext (λ r. register_put w.rd w.value registers r long small h))

-- ---- all of it

result-after : (m : Action) (s : Served) → result_after m s ≡ (if s.goes then record { rd = written_register m; value = s.value } else no_result)
unfolding result_after
result-after m s = refl

pub piped-next : (s : State) → IsSteady s → piped (cycle s) ≡ next_pipe (fate s) (served_m s).goes (served_m s).value (cycle s).pc (piped s)
unfolding cycled
piped-next s is = λ i. record {
  image = s.image;
  pc = next_fetch (fate s) s;
  npc = npc_after (fate s) s.d s.cycle s.issued s.npc;
  waiting = waiting-after s.image (fate s) s.pc s.buffer i;
  d = decoded-after (fate s) s.d (entries s.buffer) s.w s.registers i;
  m = action-after (fate s) s (served_m s).goes i;
  w = result-after (action_in_m s) (served_m s) i;
  registers = registers-after s.w s.registers is.registers is.w_rd i;
  cycle = s.cycle + 1;
  issued = issued_after (fate s) s.issued;
}
