-- One cycle with an empty EX/MEM: what becomes of ID/EX, and what the front of the pipeline holds next.
use Rattle.std.proofs.Common.{◌≡◌, ℕ, suc, Bool, true, false, List, [], ◌∷◌, arith, refl, ap, sym, ◌∙◌}
use Rattle.std.specs.Prelude.{Option, Some, None, ◌==◌, pred, if◌then◌else◌}
use Rattle.std.proofs.lemmas.Bool.Decides.{nat_tests}
use Rattle.elf_load.specs.Image.{LoadedImage, fetch}
use Rattle.rv_isa.specs.Instruction.{end_of}
use Rattle.rv_table.specs.Actions.{is_counter}
use Rattle.rv_table.specs.declared.action.Action.{Action}
use Rattle.rv_table.specs.declared.action.Action.TheVariants.{Nothing}
use Rattle.pipe_latch.specs.Execution.{executed}
use Rattle.pipe_latch.specs.Forwarding.{late, operand}
use Rattle.pipe_latch.specs.declared.forward.Forwarded.TheVariants.{Value}
use Rattle.pipe_latch.specs.Latches.{DecodedLatch, ExecutedLatch, ResultLatch, op_of_latch}
use Rattle.pipe_latch.proofs.Actions.{action-something}
use Rattle.pipe_latch.proofs.Latches.{action_of-invalid, latch_of-valid}
use Rattle.pipe_latch.proofs.Settled.{operand-nothing}
use Rattle.inst_buf.specs.Buffer.{entries}
use Rattle.inst_buf.specs.Entry.{Entry}
use Rattle.store_buf.specs.Entry.{Entry as Pending}
use Rattle.store_buf.specs.Pending.{pending}
use Rattle.cyc_machine.specs.declared.fate.Fate.{Fate}
use Rattle.cyc_machine.specs.declared.fate.Fate.TheVariants.{Absent, Dropped, Stays, Goes}
use Rattle.cyc_machine.specs.Cycle.{action_in_m, cycle, cycled, end_in, fate, move, next_fetch, served_m}
use Rattle.cyc_machine.specs.Memory.{served, word_read}
use Rattle.cyc_machine.specs.Pipeline.{decoded, decoded_after, entries_after, entry_of_word, executed_after}
use Rattle.cyc_machine.specs.Pipeline.{fate_of, fetched, goes_with, npc_after, operand_b, pc_after}
use Rattle.cyc_machine.specs.State.{State}
use Rattle.flush_view.proofs.Flush.MachinePipe.{piped-next}
use Rattle.flush_view.proofs.Flush.Pipes.{Pipe}
use Rattle.cyc_machine.specs.Sizes.{IsSteady}

-- ---- over plain variables

nothing-goes : (image : LoadedImage) (a : Action) (stores : List Pending) (read : Option ℕ) → a ≡ Nothing → (served image a stores read).goes ≡ true
unfolding served
nothing-goes image a stores read e = rw e refl

module _ (d : DecodedLatch) (npc : ℕ) (w : ResultLatch) where
  absent-fate : d.valid ≡ false → fate_of d npc Nothing w true ≡ Absent
  unfolding fate_of
  absent-fate v = rw v refl

  dropped-fate : d.valid ≡ true → (d.pc == npc) ≡ false → fate_of d npc Nothing w true ≡ Dropped
  unfolding fate_of
  dropped-fate v p = rw (v, p) refl

  stays-fate : d.valid ≡ true → (d.pc == npc) ≡ true → (d.count == 0) ≡ false → fate_of d npc Nothing w true ≡ Stays
  unfolding fate_of
  stays-fate v p k = rw (v, p, k) refl

  operand-goes : (b : Bool) → goes_with (operand Nothing w d.rs1 d.a) (if b then Value 0 else operand Nothing w d.rs2 d.b)
      ≡ Goes (late w d.rs1 d.a) (if b then 0 else late w d.rs2 d.b)
  operand-goes true = rw (operand-nothing w d.rs1 d.a) refl
  operand-goes false = rw (operand-nothing w d.rs1 d.a, operand-nothing w d.rs2 d.b) refl

  goes-fate : d.valid ≡ true → (d.pc == npc) ≡ true → (d.count == 0) ≡ true
      → fate_of d npc Nothing w true ≡ Goes (late w d.rs1 d.a) (if is_counter (op_of_latch d) then 0 else late w d.rs2 d.b)
  unfolding fate_of operand_b
  goes-fate v p k = rw (v, p, k) (operand-goes (is_counter (op_of_latch d)))

executed-valid : (image : LoadedImage) (d : DecodedLatch) (a b : ℕ) → (executed image d a b).valid ≡ true
unfolding executed
executed-valid image d a b = latch_of-valid _ (action-something _ _ (op_of_latch d) d.pc a b)

pub fetched-pc : (image : LoadedImage) (pc : ℕ) → (fetched image pc).pc ≡ pc
fetched-pc image pc = go (fetch image pc)
  where
    go : (o : Option ℕ) → (entry_of_word pc o).pc ≡ pc
    go (Some word) = refl
    go None = refl

some_left : (n c : ℕ) → n ≡ suc c → (n == 0) ≡ false
some_left n c e = grind (arith, nat_tests)

same_test : (a b c d : ℕ) → a ≡ b → c ≡ d → (a == c) ≡ (b == d)
same_test a b c d e f = rw (e, f) refl

-- ---- a cycle

module _ (s : State) (empty : s.m.valid ≡ false) where
  nothing : action_in_m s ≡ Nothing
  nothing = action_of-invalid s.m empty

  pub empty-end : end_in s ≡ None
  empty-end = ap end_of nothing

  free : (served_m s).goes ≡ true
  free = nothing-goes s.image (action_in_m s) (pending s.stores) (word_read (move s) s.cache) nothing

  fate-is : (f : Fate) → fate_of s.d s.npc Nothing s.w true ≡ f → fate s ≡ f
  fate-is f e = ap (λ (a : Action). fate_of s.d s.npc a s.w (served_m s).goes) nothing ∙ ap (fate_of s.d s.npc Nothing s.w) free ∙ e

  m-next : (f : Fate) → fate s ≡ f → (cycle s).m ≡ executed_after s.image f true s.d s.cycle s.issued s.m
  unfolding cycled
  m-next f e =
      ap (λ (g : Fate). executed_after s.image g (served_m s).goes s.d s.cycle s.issued s.m) e
      ∙ ap (λ b. executed_after s.image f b s.d s.cycle s.issued s.m) free

  d-next : (f : Fate) → fate s ≡ f → (cycle s).d ≡ decoded_after f s.d (entries s.buffer) s.w s.registers
  unfolding cycled
  d-next f e = ap (λ (g : Fate). decoded_after g s.d (entries s.buffer) s.w s.registers) e

  npc-next : (f : Fate) → fate s ≡ f → (cycle s).npc ≡ npc_after f s.d s.cycle s.issued s.npc
  unfolding cycled
  npc-next f e = ap (λ (g : Fate). npc_after g s.d s.cycle s.issued s.npc) e

  pc-next : (f : Fate) → fate s ≡ f → (cycle s).pc ≡ next_fetch f s
  unfolding cycled
  pc-next f e = ap (λ (g : Fate). next_fetch g s) e

  entries-next : IsSteady s → (f : Fate) → fate s ≡ f → entries (cycle s).buffer ≡ entries_after s.image f s.pc (entries s.buffer)
  entries-next is f e = ap (λ (p : Pipe). p.waiting) (piped-next s is) ∙ ap (λ (g : Fate). entries_after s.image g s.pc (entries s.buffer)) e

  -- ID/EX leaves
  pub goes_next : s.d.valid ≡ true → (s.d.pc == s.npc) ≡ true → (s.d.count == 0) ≡ true → (cycle s).m.valid ≡ true
  unfolding executed_after
  goes_next v p k = ap (λ (m : ExecutedLatch). m.valid) (m-next _ (fate-is _ (goes-fate s.d s.npc s.w v p k))) ∙ executed-valid s.image s.d _ _

  -- ID/EX waits one cycle less
  pub stays_next : (c : ℕ) → s.d.valid ≡ true → (s.d.pc == s.npc) ≡ true → s.d.count ≡ suc c
      → ((cycle s).m.valid ≡ false) × ((cycle s).d.valid ≡ true) × (((cycle s).d.pc == (cycle s).npc) ≡ true) × ((cycle s).d.count ≡ c)
  unfolding executed_after decoded_after npc_after
  stays_next c v p k =
      let f : fate s ≡ Stays = fate-is Stays (stays-fate s.d s.npc s.w v p (some_left s.d.count c k)) in (
        ap (λ (m : ExecutedLatch). m.valid) (m-next Stays f),
        ap (λ (d : DecodedLatch). d.valid) (d-next Stays f) ∙ v,
        same_test (cycle s).d.pc s.d.pc (cycle s).npc s.npc (ap (λ (d : DecodedLatch). d.pc) (d-next Stays f)) (npc-next Stays f) ∙ p,
        ap (λ (d : DecodedLatch). d.count) (d-next Stays f) ∙ ap pred k,
      )

  -- ID/EX expects to be elsewhere: it goes, and fetching begins anew
  pub dropped_next : IsSteady s → s.d.valid ≡ true → (s.d.pc == s.npc) ≡ false
      → ((cycle s).m.valid ≡ false) × ((cycle s).d.valid ≡ false) × (entries (cycle s).buffer ≡ []) × ((cycle s).pc ≡ (cycle s).npc)
  unfolding executed_after decoded_after npc_after entries_after pc_after
  dropped_next is v p =
      let f : fate s ≡ Dropped = fate-is Dropped (dropped-fate s.d s.npc s.w v p) in (
        ap (λ (m : ExecutedLatch). m.valid) (m-next Dropped f),
        ap (λ (d : DecodedLatch). d.valid) (d-next Dropped f),
        entries-next is Dropped f,
        pc-next Dropped f ∙ sym (npc-next Dropped f),
      )

  -- the first entry is taken
  pub taken_next : (e : Entry) (es : List Entry) → s.d.valid ≡ false → entries s.buffer ≡ e ∷ es
      → ((cycle s).m.valid ≡ false) × ((cycle s).d.valid ≡ true) × ((cycle s).d.pc ≡ e.pc) × ((cycle s).npc ≡ s.npc)
  unfolding executed_after decoded_after npc_after decoded
  taken_next e es v h =
      let f : fate s ≡ Absent = fate-is Absent (absent-fate s.d s.npc s.w v) in
      let d : (cycle s).d ≡ decoded e s.w s.registers = d-next Absent f ∙ ap (λ (waiting : List Entry). decoded_after Absent s.d waiting s.w s.registers) h in (
        ap (λ (m : ExecutedLatch). m.valid) (m-next Absent f),
        ap (λ (d : DecodedLatch). d.valid) d,
        ap (λ (d : DecodedLatch). d.pc) d,
        npc-next Absent f,
      )

  -- one entry is fetched
  pub fetched_next : IsSteady s → s.d.valid ≡ false → entries s.buffer ≡ []
      → ((cycle s).m.valid ≡ false) × ((cycle s).d.valid ≡ false) × (entries (cycle s).buffer ≡ fetched s.image s.pc ∷ []) × ((cycle s).npc ≡ s.npc)
  unfolding executed_after decoded_after npc_after entries_after
  fetched_next is v h =
      let f : fate s ≡ Absent = fate-is Absent (absent-fate s.d s.npc s.w v) in (
        ap (λ (m : ExecutedLatch). m.valid) (m-next Absent f),
        ap (λ (d : DecodedLatch). d.valid) (d-next Absent f ∙ ap (λ (waiting : List Entry). decoded_after Absent s.d waiting s.w s.registers) h),
        entries-next is Absent f ∙ ap (entries_after s.image Absent s.pc) h,
        npc-next Absent f,
      )
