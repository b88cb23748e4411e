-- A field of ID/EX that isn't read: all its bits are masked, or none where a read of the cycle counter is completed.
use Rattle.std.proofs.Common.{◌≡◌, ◌↔◌, ℕ, ◌+◌, ◌-◌, ◌^◌, ◌<◌, ◌≤◌, Bool, true, false, refl, sym, ◌∙◌, ap, subst, arith, inl, inr}
use Rattle.std.specs.Prelude.{◌&&◌, IsTrue, not, if◌then◌else◌}
use Rattle.std.proofs.lemmas.Bool.{cases_lt}
use Rattle.std.proofs.lemmas.Nat.Bits.{bit_at-zero, bit_at_ones, bit_at_ones_above}
use Rattle.elf_load.specs.Image.{LoadedImage}
use Rattle.rv_table.specs.Actions.{is_clocked}
use Rattle.rv_isa.specs.Architecture.{ArchState, state_of}
use Rattle.rv_isa.specs.Instruction.{end_of}
use Rattle.bit_field.specs.Layouts.{flip}
use Rattle.rv_table.specs.declared.action.Action.TheVariants.{Nothing}
use Rattle.pipe_latch.specs.DecodedBits as decoded
use Rattle.pipe_latch.specs.ExecutedBits as executed
use Rattle.pipe_latch.specs.LatchedActions.{action_by, action_of, kind_of}
use Rattle.pipe_latch.specs.declared.kinds.ExMemKind.{ExMemKind}
use Rattle.pipe_latch.specs.declared.kinds.ExMemKind.TheVariants.{WriteBack, Load, Store, Put, Exit, Trap}
use Rattle.pipe_latch.specs.Latches.{DecodedLatch, ExecutedLatch, ResultLatch, op_of_latch}
use Rattle.need_pass.specs.Tables.{Needs}
use Rattle.eval_mask.specs.Aftermaths.{aftermath_of, change_of, doing_of, is_completed, left_by, no_change, write_held}
use Rattle.eval_mask.specs.Cases.{IsCase, IsMaskBelow}
use Rattle.eval_mask.specs.LatchMasks.{IsDecodedMasked, IsExecutedMasked, base_of, reads_clock}
use Rattle.eval_mask.specs.Unread.{DoesTheSame, is_store}
use Rattle.eval_mask.specs.declared.cases.Case.{Case}
use Rattle.eval_mask.specs.declared.completing.Aftermath.{Aftermath}
use Rattle.eval_mask.specs.declared.completing.Doing.{Doing}
use Rattle.eval_mask.proofs.Completed.{doing_told}
use Rattle.eval_mask.proofs.Doings.{agrees_itself, completed_same}
use Rattle.eval_mask.proofs.Fields.{decoded_inside, executed_inside, flip_keeps, y_flipped}
use Rattle.eval_mask.proofs.Masked.{IsAskedOf, decoded_exactly, executed_exactly, masked_exactly, no_both}
use Rattle.eval_mask.proofs.OwnChange.{own_write}
use Rattle.eval_mask.proofs.UnreadBits.{unread_exactly}

still_own : (image : LoadedImage) (w : ResultLatch) (m : ExecutedLatch) (d other : DecodedLatch) (memory : ℕ → ℕ) (npc x : ℕ)
    → is_completed m other npc ≡ is_completed m d npc → doing_of image w m other memory x ≡ doing_of image w m d memory x
    → aftermath_of image w m other memory npc x ≡ aftermath_of image w m d memory npc x
unfolding aftermath_of
still_own image w m d other memory npc x e f =
    let below = change_of image (action_of m) memory in
    let stopped : Aftermath = record { first = write_held w; below = below; above = no_change; pc = npc; end = end_of (action_of m) } in
    ap (λ (t : Bool). if t then left_by image (write_held w) below (doing_of image w m other memory x) memory else stopped) e
    ∙ ap (λ (z : Doing). if is_completed m d npc then left_by image (write_held w) below z memory else stopped) f

still_clock : (arch : ArchState) (w : ResultLatch) (m : ExecutedLatch) (d other : DecodedLatch) (rd old npc x : ℕ)
    → is_completed m other npc ≡ is_completed m d npc → is_clocked (op_of_latch other) ≡ is_clocked (op_of_latch d)
    → reads_clock arch.image (record { w = w; m = m; d = other }) (base_of arch rd old npc x)
    ≡ reads_clock arch.image (record { w = w; m = m; d = d }) (base_of arch rd old npc x)
unfolding reads_clock
still_clock arch w m d other rd old npc x e f =
    ap (λ (t : Bool). t && is_clocked (op_of_latch other)) e ∙ ap (λ (t : Bool). is_completed m d npc && t) f

same_doing : (needs : Needs) (arch : ArchState) (w : ResultLatch) (m : ExecutedLatch) (d other : DecodedLatch) (case : Case) → IsCase needs arch w m d case
    → DoesTheSame w case.own.below.write d other
    → doing_of arch.image w m other (state_of arch).memory case.issued ≡ doing_of arch.image w m d (state_of arch).memory case.issued
same_doing needs arch w m d other case is same =
    let told = own_write needs arch w m d case is in
    sym (doing_told arch.image w m other (state_of arch).memory case.own.below.write case.issued told)
    ∙ same.doing arch.image case.issued
    ∙ doing_told arch.image w m d (state_of arch).memory case.own.below.write case.issued told

unread_asked : (needs : Needs) (arch : ArchState) (w : ResultLatch) (m : ExecutedLatch) (d other : DecodedLatch) (case : Case) → IsCase needs arch w m d case
    → (other.valid ≡ d.valid) × (other.pc ≡ d.pc) → DoesTheSame w case.own.below.write d other → case.reads_clock ≡ false
    → IsAskedOf needs arch case (record { w = w; m = m; d = d }) (record { w = w; m = m; d = other })
unread_asked needs arch w m d other case is keeps same unread =
    let completed = completed_same m d other case.npc (keeps.0) (keeps.1) in
    let left =
    still_own arch.image w m d other (state_of arch).memory case.npc case.issued completed (same_doing needs arch w m d other case is same)
    ∙ sym is.outcome in
    (masked_exactly needs case.first_after arch case.oldest.rd case.oldest.value case.npc case.issued (record { w = w; m = m; d = d })
    (record { w = w; m = m; d = other }) case.own true is.outcome
    (still_clock arch w m d other case.oldest.rd case.oldest.value case.npc case.issued completed same.clock ∙ sym is.clock ∙ unread)
    (λ t. agrees_itself needs arch case _ left, λ a. refl)).0
    refl

pub unread_masked : (needs : Needs) (arch : ArchState) (w : ResultLatch) (m : ExecutedLatch) (d : DecodedLatch) (case : Case) (k : ℕ) → IsCase needs arch w m d case
    → case.on_path ≡ true → 31 ≤ k → k < 148 → DoesTheSame w case.own.below.write d (decoded.flipped d k) → case.reads_clock ≡ false
    → IsDecodedMasked needs arch (record { w = w; m = m; d = d }) case.oldest.value case.npc case.issued k
unread_masked needs arch w m d case k is on from to same unread =
    (decoded_exactly needs arch w m d case k true is on (decoded_inside k from to)
    (λ t. unread_asked needs arch w m d (decoded.flipped d k) case is (flip_keeps d k from to) same unread, λ a. refl)).0
    refl

clock_unmasked : (needs : Needs) (arch : ArchState) (w : ResultLatch) (m : ExecutedLatch) (d : DecodedLatch) (case : Case) (k : ℕ) → IsCase needs arch w m d case
    → 31 ≤ k → k < 148 → DoesTheSame w case.own.below.write d (decoded.flipped d k) → case.reads_clock ≡ true
    → IsDecodedMasked needs arch (record { w = w; m = m; d = d }) case.oldest.value case.npc case.issued k → ⊥
clock_unmasked needs arch w m d case k is from to same reads s =
    let keeps = flip_keeps d k from to in
    let other : DecodedLatch = decoded.flipped d k in
    let unread =
    subst (λ (rd : ℕ). reads_clock arch.image (record { w = w; m = m; d = other }) (base_of arch rd case.oldest.value case.npc case.issued) ≡ false)
    (sym is.oldest) s.masked.unread in
    no_both _
    (still_clock arch w m d (decoded.flipped d k) case.oldest.rd case.oldest.value case.npc case.issued
    (completed_same m d (decoded.flipped d k) case.npc (keeps.0) (keeps.1)) same.clock
    ∙ sym is.clock
    ∙ reads) unread

all_masked : (P : ℕ → Type 0) → ((i : ℕ) → i < 32 → P i) → IsMaskBelow 32 P (2 ^ 32 - 1)
all_masked P all = record {
  bits =
      λ k. (
        λ one.
            elim (cases_lt k 32) [
              | inl l ↦ (l, all k l)
              | inr h ↦ absurd (omega (arith, one, bit_at_ones_above 32 k h))
            ],
        λ h. bit_at_ones 32 k (h.0),
      );
}

pub none_masked : (P : ℕ → Type 0) → ((i : ℕ) → i < 32 → P i → ⊥) → IsMaskBelow 32 P 0
none_masked P never = record {
  bits = λ k. (λ one. absurd (omega (arith, one, bit_at-zero k)), λ h. absurd (never k (h.0) (h.1)));
}

pub whole_by : (clock : Bool) (P : ℕ → Type 0) → (clock ≡ false → (i : ℕ) → i < 32 → P i) → (clock ≡ true → (i : ℕ) → i < 32 → P i → ⊥)
    → IsMaskBelow 32 P (if clock then 0 else 2 ^ 32 - 1)
whole_by true P all never = none_masked P (never refl)
whole_by false P all never = all_masked P (all refl)

pub unread_field : (needs : Needs) (arch : ArchState) (w : ResultLatch) (m : ExecutedLatch) (d : DecodedLatch) (case : Case) (from : ℕ) → IsCase needs arch w m d case
    → case.on_path ≡ true → 31 ≤ from → from + 32 ≤ 148
    → ((i : ℕ) → i < 32 → DoesTheSame w case.own.below.write d (decoded.flipped d (from + i)))
    → IsMaskBelow 32 (λ i. IsDecodedMasked needs arch (record { w = w; m = m; d = d }) case.oldest.value case.npc case.issued (from + i)) (if case.reads_clock then 0 else 2 ^ 32 - 1)
unread_field needs arch w m d case from is on above below same =
    whole_by case.reads_clock (λ i. IsDecodedMasked needs arch (record { w = w; m = m; d = d }) case.oldest.value case.npc case.issued (from + i))
    (λ unread i l. unread_masked needs arch w m d case (from + i) is on (omega arith) (omega arith) (same i l) unread)
    (λ reads i l. clock_unmasked needs arch w m d case (from + i) is (omega arith) (omega arith) (same i l) reads)

-- ---- the value to store of EX/MEM

y_by : (occupied : Bool) (kind : ExMemKind) (m : ExecutedLatch) (v : ℕ) → is_store (if occupied then action_by kind m else Nothing) ≡ false
    → (if occupied then action_by kind (record m { y = v }) else Nothing) ≡ (if occupied then action_by kind m else Nothing)
y_by false kind m v e = refl
y_by true WriteBack m v e = refl
y_by true (Load kind) m v e = refl
y_by true (Store kind) m v e = absurd (grind arith)
y_by true Put m v e = refl
y_by true Exit m v e = refl
y_by true Trap m v e = refl

y_unread : (m : ExecutedLatch) (v : ℕ) → is_store (action_of m) ≡ false → action_of (record m { y = v }) ≡ action_of m
unfolding action_of
y_unread m v e = y_by m.valid (kind_of m.kind) m v e

y_bit : (needs : Needs) (arch : ArchState) (w : ResultLatch) (m : ExecutedLatch) (d : DecodedLatch) (case : Case) (i : ℕ) → IsCase needs arch w m d case
    → is_store case.executed ≡ false → i < 32
    → IsTrue (not case.reads_clock) ↔ IsExecutedMasked needs arch (record { w = w; m = m; d = d }) case.oldest.value case.npc case.issued (43 + i)
y_bit needs arch w m d case i is no_store l =
    let same =
    ap action_of (sym (y_flipped m i l)) ∙ y_unread m (flip m.y i) (ap is_store (sym is.executed) ∙ no_store) in
    executed_exactly needs arch w m d case (43 + i) (not case.reads_clock) is (executed_inside (43 + i) (omega arith))
    (unread_exactly needs arch w m (executed.flipped m (43 + i)) d case is same)

pub unread_y : (needs : Needs) (arch : ArchState) (w : ResultLatch) (m : ExecutedLatch) (d : DecodedLatch) (case : Case) → IsCase needs arch w m d case
    → is_store case.executed ≡ false
    → IsMaskBelow 32 (λ i. IsExecutedMasked needs arch (record { w = w; m = m; d = d }) case.oldest.value case.npc case.issued (43 + i)) (if case.reads_clock then 0 else 2 ^ 32 - 1)
unread_y needs arch w m d case is no_store =
    whole_by case.reads_clock (λ i. IsExecutedMasked needs arch (record { w = w; m = m; d = d }) case.oldest.value case.npc case.issued (43 + i))
    (λ unread i l. (y_bit needs arch w m d case i is no_store l).0 (rw unread refl))
    (λ reads i l s. not_both case.reads_clock reads ((y_bit needs arch w m d case i is no_store l).1 s))
  where
    not_both : (t : Bool) → t ≡ true → IsTrue (not t) → ⊥
    not_both t e n = grind arith
