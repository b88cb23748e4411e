-- The outcome told by an aftermath, and masked bits by it.
use Rattle.std.proofs.Common.{◌≡◌, ◌↔◌, ℕ, ◌<◌, ◌≤◌, Bool, true, false, refl, sym, ◌∙◌, ap, arith}
use Rattle.std.specs.Prelude.{◌/◌, IsTrue, slice_index, Some, None, if◌then◌else◌}
use Rattle.elf_load.specs.Image.{LoadedImage, word_in_ram}
use Rattle.rv_table.specs.Accesses.{stored}
use Rattle.rv_table.specs.Actions.{with_counter}
use Rattle.rv_table.specs.Effects.{written_register}
use Rattle.rv_table.specs.declared.action.Action.{Action}
use Rattle.rv_table.specs.declared.action.Action.TheVariants.{Stores}
use Rattle.rv_table.specs.declared.operation.StoreKind.{StoreKind}
use Rattle.rv_isa.specs.Architecture.{ArchState, state_of}
use Rattle.rv_isa.specs.Instruction.{State, action_in, completed, end_of, given, memory_after as after_action, put_reg}
use Rattle.pipe_latch.specs.DecodedBits as decoded
use Rattle.pipe_latch.specs.ExecutedBits as executed
use Rattle.pipe_latch.specs.ResultBits as result
use Rattle.pipe_latch.specs.LatchedActions.{action_of}
use Rattle.pipe_latch.specs.Latches.{DecodedLatch, ExecutedLatch, ResultLatch, op_of_latch}
use Rattle.cyc_machine.specs.InFlight.{completed_item, item_of_latch, latches_completed, operand_held, outcome}
use Rattle.need_pass.specs.Tables.{Needs}
use Rattle.eval_mask.specs.Aftermaths.{Tells, aftermath_of, change_of, doing_of, doing_with, is_completed, left_by, no_change, state_after, store_by, stored_over}
use Rattle.eval_mask.specs.Agreement.{Agree}
use Rattle.eval_mask.specs.Cases.{IsCase}
use Rattle.eval_mask.specs.LatchMasks.{IsDecodedMasked, IsExecutedMasked, IsMasked, IsResultMasked, Latches, base_of, decoded_field, executed_field, is_in, reads_clock, result_field}
use Rattle.eval_mask.specs.declared.completing.Aftermath.{Aftermath}
use Rattle.eval_mask.specs.declared.cases.Case.{Case}
use Rattle.eval_mask.proofs.Agreeing.{agree_told}
use Rattle.eval_mask.proofs.Fields.{decoded_end, decoded_front, executed_end, written_end}

kept_store : (kind : StoreKind) (x y : ℕ) (memory : ℕ → ℕ) (t : Bool)
    → (if t then stored kind x y memory else memory) ≡ stored_over (if t then Some (record { kind = kind; address = x; value = y }) else None) memory
kept_store kind x y memory true = refl
kept_store kind x y memory false = refl

-- what an action makes of memory, by its store
pub memory_by : (image : LoadedImage) (done : Action) (memory : ℕ → ℕ) → after_action image done memory ≡ stored_over (store_by image done) memory
memory_by image (Stores kind x y) memory = kept_store kind x y memory (word_in_ram image (x / 4))
memory_by image _ memory = refl

told_if : (t : Bool) (x y : Aftermath) (f m : ℕ → ℕ) (s u : State) → Tells x f m s → Tells y f m u → Tells (if t then x else y) f m (if t then s else u)
told_if true x y f m s u a b = a
told_if false x y f m s u a b = b

pub outcome_told : (arch : ArchState) (w : ResultLatch) (m : ExecutedLatch) (d : DecodedLatch) (rd old npc x : ℕ)
    → Tells (aftermath_of arch.image w m d (state_of arch).memory npc x) (put_reg rd old (slice_index arch.registers)) (state_of arch).memory (outcome arch.image w m d (base_of arch rd old npc x))
unfolding outcome aftermath_of doing_of doing_with left_by completed change_of
outcome_told arch w m d rd old npc x =
    let image = arch.image in
    let before = (state_of arch).memory in
    let under = latches_completed image (action_of m) w (base_of arch rd old npc x) in
    let below = memory_by image (action_of m) before in
    let a = operand_held image (action_of m) w before d.rs1 d.a in
    let b = with_counter (op_of_latch d) 0 x (operand_held image (action_of m) w before d.rs2 d.b) in
    let done = action_in image (op_of_latch d) d.pc a b in
    told_if (is_completed m d npc)
    (left_by image (record { rd = w.rd; value = w.value }) (change_of image (action_of m) before) (doing_of image w m d before x) before)
    (record {
      first = record { rd = w.rd; value = w.value };
      below = change_of image (action_of m) before;
      above = no_change;
      pc = npc;
      end = end_of (action_of m);
    })
    (put_reg rd old (slice_index arch.registers)) before
    (completed_item image (item_of_latch image (action_of m) w before d) under) under
    (record {
      written = ap (λ (memory : ℕ → ℕ). put_reg (written_register done) (given image done memory) under.registers) below;
      stored = ap (after_action image done) below ∙ memory_by image done (stored_over (store_by image (action_of m)) before);
      put = refl;
      goes = refl;
      ends = refl;
    })
    (record { written = refl; stored = below; put = refl; goes = refl; ends = refl })

pub not_true : IsTrue false → ⊥
not_true e = grind arith

pub no_both : (t : Bool) → t ≡ true → t ≡ false → ⊥
no_both t e f = grind arith

pub masked_exactly : (needs : Needs) (j : ℕ) (arch : ArchState) (rd old npc x : ℕ) (l other : Latches) (own : Aftermath) (r : Bool)
    → own ≡ aftermath_of arch.image l.w l.m l.d (state_of arch).memory npc x → reads_clock arch.image other (base_of arch rd old npc x) ≡ false
    → IsTrue r ↔ Agree needs j (state_after (aftermath_of arch.image other.w other.m other.d (state_of arch).memory npc x) (put_reg rd old (slice_index arch.registers)) (state_of arch).memory) (state_after own (put_reg rd old (slice_index arch.registers)) (state_of arch).memory)
    → IsTrue r ↔ IsMasked needs j arch.image (base_of arch rd old npc x) l other
masked_exactly needs j arch rd old npc x l other own r e unread h =
    let told =
    agree_told needs j (put_reg rd old (slice_index arch.registers)) (state_of arch).memory _ _ _ _
    (outcome_told arch other.w other.m other.d rd old npc x) (outcome_told arch l.w l.m l.d rd old npc x) in
    let same = rw e at h in
    (λ t. record { unread = unread; agree = told.0 (same.0 t) }, λ k. same.1 (told.1 k.agree))

pub masked_never : (needs : Needs) (j : ℕ) (arch : ArchState) (rd old npc x : ℕ) (l other : Latches)
    → reads_clock arch.image other (base_of arch rd old npc x) ≡ true → IsTrue false ↔ IsMasked needs j arch.image (base_of arch rd old npc x) l other
masked_never needs j arch rd old npc x l other reads = (λ t. absurd (not_true t), λ k. absurd (no_both _ reads k.unread))

-- ---- the bits of a case

abbrev pub IsAskedOf : Needs → ArchState → Case → Latches → Latches → Type 0
IsAskedOf needs arch case l other = IsMasked needs case.first_after arch.image (base_of arch case.oldest.rd case.oldest.value case.npc case.issued) l other

pub decoded_exactly : (needs : Needs) (arch : ArchState) (w : ResultLatch) (m : ExecutedLatch) (d : DecodedLatch) (case : Case) (k : ℕ) (r : Bool)
    → IsCase needs arch w m d case → case.on_path ≡ true → is_in decoded_field (decoded.field_of k) ≡ true
    → IsTrue r ↔ IsAskedOf needs arch case (record { w = w; m = m; d = d }) (record { w = w; m = m; d = decoded.flipped d k })
    → IsTrue r ↔ IsDecodedMasked needs arch (record { w = w; m = m; d = d }) case.oldest.value case.npc case.issued k
decoded_exactly needs arch w m d case k r is on field h =
    let same = rw (is.first, is.oldest) at h in
    (λ t. record { on_path = sym is.path ∙ on; field = field; masked = same.0 t }, λ s. same.1 s.masked)

pub executed_exactly : (needs : Needs) (arch : ArchState) (w : ResultLatch) (m : ExecutedLatch) (d : DecodedLatch) (case : Case) (k : ℕ) (r : Bool)
    → IsCase needs arch w m d case → is_in executed_field (executed.field_of k) ≡ true
    → IsTrue r ↔ IsAskedOf needs arch case (record { w = w; m = m; d = d }) (record { w = w; m = executed.flipped m k; d = d })
    → IsTrue r ↔ IsExecutedMasked needs arch (record { w = w; m = m; d = d }) case.oldest.value case.npc case.issued k
executed_exactly needs arch w m d case k r is field h =
    let same = rw (is.first, is.oldest) at h in
    (λ t. record { field = field; masked = same.0 t }, λ s. same.1 s.masked)

pub written_exactly : (needs : Needs) (arch : ArchState) (w : ResultLatch) (m : ExecutedLatch) (d : DecodedLatch) (case : Case) (k : ℕ) (r : Bool)
    → IsCase needs arch w m d case → is_in result_field (result.field_of k) ≡ true
    → IsTrue r ↔ IsAskedOf needs arch case (record { w = w; m = m; d = d }) (record { w = result.flipped w k; m = m; d = d })
    → IsTrue r ↔ IsResultMasked needs arch (record { w = w; m = m; d = d }) case.oldest.value case.npc case.issued k
written_exactly needs arch w m d case k r is field h =
    let same = rw (is.first, is.oldest) at h in
    (λ t. record { field = field; masked = same.0 t }, λ s. same.1 s.masked)

-- ---- bits of which none is masked

pub off_path : (needs : Needs) (arch : ArchState) (w : ResultLatch) (m : ExecutedLatch) (d : DecodedLatch) (case : Case)
    → IsCase needs arch w m d case → case.on_path ≡ false → (k : ℕ)
    → IsDecodedMasked needs arch (record { w = w; m = m; d = d }) case.oldest.value case.npc case.issued k → ⊥
off_path needs arch w m d case is off k s = no_both _ s.on_path (sym is.path ∙ off)

pub decoded_before : (needs : Needs) (arch : ArchState) (l : Latches) (old npc x k : ℕ) → k < 31 → IsDecodedMasked needs arch l old npc x k → ⊥
decoded_before needs arch l old npc x k h s = no_both _ s.field (decoded_front k h)

pub decoded_after : (needs : Needs) (arch : ArchState) (l : Latches) (old npc x k : ℕ) → 148 ≤ k → IsDecodedMasked needs arch l old npc x k → ⊥
decoded_after needs arch l old npc x k h s = no_both _ s.field (decoded_end k h)

pub executed_after : (needs : Needs) (arch : ArchState) (l : Latches) (old npc x k : ℕ) → 75 ≤ k → IsExecutedMasked needs arch l old npc x k → ⊥
executed_after needs arch l old npc x k h s = no_both _ s.field (executed_end k h)

pub written_after : (needs : Needs) (arch : ArchState) (l : Latches) (old npc x k : ℕ) → 37 ≤ k → IsResultMasked needs arch l old npc x k → ⊥
written_after needs arch l old npc x k h s = no_both _ s.field (written_end k h)
