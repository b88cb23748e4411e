-- The bits of an instruction word.
use Rattle.std.proofs.Common.{◌≡◌, ◌↔◌, ℕ, ◌+◌, Bool, true, false, refl, sym, ap, ◌∙◌, arith}
use Rattle.std.specs.Prelude.{IsTrue, slice_index, Option, Some}
use Rattle.std.proofs.lemmas.Bool.{true≢false}
use Rattle.std.proofs.lemmas.Nat.Bits.{bit_at-zero}
use Rattle.std.specs.Option.{is_some}
use Rattle.avf_base.specs.declared.end.End.{End}
use Rattle.avf_base.specs.declared.end.End.TheVariants.{Trap}
use Rattle.elf_load.specs.Image.{LoadedImage}
use Rattle.rv_table.specs.Actions.{action, asked, asked_by, is_clocked, judged}
use Rattle.rv_table.specs.Operations.{operation_of}
use Rattle.rv_table.specs.Rows.{row_of}
use Rattle.rv_table.specs.declared.op.Op.{Op}
use Rattle.rv_table.specs.declared.op.TheConstants.{ILLEGAL_CODE}
use Rattle.rv_table.specs.declared.operation.Operation.TheVariants.{Illegal}
use Rattle.rv_table.specs.declared.trap.TheConstants.{ILLEGAL_INSTRUCTION}
use Rattle.rv_isa.specs.Instruction.{State, completed}
use Rattle.rv_table.specs.Words.{decode}
use Rattle.rv_isa.specs.Architecture.{ArchState, state_of}
use Rattle.rv_isa.specs.Effects.{operated}
use Rattle.need_pass.specs.Tables.{Needs}
use Rattle.eval_mask.specs.Aftermaths.{Tells, state_after}
use Rattle.eval_mask.specs.Agreement.{Agree}
use Rattle.eval_mask.specs.WordMasks.{IsAlikeWord, IsWordMask}
use Rattle.eval_mask.specs.declared.completing.Aftermath.{Aftermath}
use Rattle.eval_mask.proofs.Agreeing.{agree_told}
use Rattle.eval_mask.proofs.Masked.{no_both, not_true}

pub none_alike : (needs : Needs) (i : ℕ) (arch : ArchState) (word : ℕ) → is_clocked (decode word) ≡ true → IsWordMask needs i arch word 0
none_alike needs i arch word reads = record { bits = λ k l. (λ one. absurd (omega (arith, bit_at-zero k)), λ s. absurd (no_both _ reads s.was_unread)) }

pub reads_alone : (needs : Needs) (i : ℕ) (arch : ArchState) (word other : ℕ) → is_clocked (decode other) ≡ true
    → IsTrue false ↔ IsAlikeWord needs i arch word other
reads_alone needs i arch word other reads = (λ t. absurd (not_true t), λ s. absurd (no_both _ reads s.unread))

pub alike_exactly : (needs : Needs) (i : ℕ) (arch : ArchState) (word other : ℕ) (x y : Aftermath) (r : Bool) → is_clocked (decode other) ≡ false
    → is_clocked (decode word) ≡ false
    → Tells x (slice_index arch.registers) (state_of arch).memory (operated arch.image (decode other) (state_of arch))
    → Tells y (slice_index arch.registers) (state_of arch).memory (operated arch.image (decode word) (state_of arch))
    → IsTrue r ↔ Agree needs (i + 1) (state_after x (slice_index arch.registers) (state_of arch).memory) (state_after y (slice_index arch.registers) (state_of arch).memory)
    → IsTrue r ↔ IsAlikeWord needs i arch word other
alike_exactly needs i arch word other x y r u v s t h =
    let told = agree_told needs (i + 1) (slice_index arch.registers) (state_of arch).memory x y _ _ s t in
    (λ e. record { unread = u; was_unread = v; agree = told.0 (h.0 e) }, λ k. h.1 (told.1 k.agree))

-- ---- a word outside the table

illegal_operation : (code : ℕ) → code ≡ ILLEGAL_CODE → operation_of code ≡ Illegal
unfolding operation_of row_of
illegal_operation code e = rw e refl

illegal_ends : (image : LoadedImage) (op : Op) (at : State) → op.code ≡ ILLEGAL_CODE → (operated image op at).stop ≡ Some (Trap ILLEGAL_INSTRUCTION)
unfolding completed action judged asked asked_by
illegal_ends image op at e = rw (illegal_operation op.code e) refl

ends_neither : (o p : Option End) (end : End) → p ≡ Some end → p ≡ o → is_some o ≡ false → ⊥
ends_neither o p end e same none = true≢false (sym (ap is_some (sym same ∙ e)) ∙ none)

pub illegal_alone : (needs : Needs) (i : ℕ) (arch : ArchState) (word other : ℕ) (own : Aftermath) → (decode other).code ≡ ILLEGAL_CODE
    → Tells own (slice_index arch.registers) (state_of arch).memory (operated arch.image (decode word) (state_of arch)) → is_some own.end ≡ false
    → IsTrue false ↔ IsAlikeWord needs i arch word other
illegal_alone needs i arch word other own e told none = (
  λ t. absurd (not_true t),
  λ s. absurd (ends_neither own.end _ (Trap ILLEGAL_INSTRUCTION) (illegal_ends arch.image (decode other) (state_of arch) e) (s.agree.stop ∙ told.ends) none),
)
