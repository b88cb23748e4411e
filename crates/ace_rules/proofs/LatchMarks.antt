-- The classes of the bits of MEM/WB and EX/MEM by masks.
use Rattle.std.proofs.Common.{◌≡◌, ℕ, ◌<◌, ◌==◌, not, Bool, true, [], ◌∷◌, refl}
use Rattle.std.specs.Prelude.{Some, if◌then◌else◌}
use Rattle.std.proofs.lemmas.Bool.{agree_below}
use Rattle.bit_field.specs.Layouts.{located}
use Rattle.bit_field.specs.declared.shapes.TheConstants.{EX_MEM_BITS, MEM_WB_BITS}
use Rattle.pipe_latch.specs.ExecutedBits as exmem
use Rattle.pipe_latch.specs.ResultBits as memwb
use Rattle.pipe_latch.specs.declared.ex_mem.ExMemField.{ExMemField}
use Rattle.pipe_latch.specs.declared.mem_wb.MemWbField.{MemWbField}
use Rattle.ace_class.specs.declared.class.Rule.{Rule}
use Rattle.ace_class.specs.declared.class.Rule.TheVariants.{EmptyPlace, Masked, NoTrapCause}
use Rattle.ace_rules.specs.FirstRules.{class_by, no_rule}
use Rattle.ace_rules.specs.PipelineTests.{executed_tests, is_cause, is_executed_valid, is_value, result_tests}
use Rattle.ace_rules.specs.RuleMasks.{first_of, is_set}
use Rattle.ace_rules.specs.declared.note.Note.{Note}
use Rattle.ace_rules.specs.declared.tally.RuleMask.{RuleMask}
use Rattle.ace_rules.specs.declared.tally_latches.TheConstants.{EXECUTED_CAUSE, EXECUTED_UNUSED, RESULT_VALUE}
use Rattle.ace_rules.proofs.MarkedBits.{in_field, marks, when-set}

value-tried : agree_below (is_set RESULT_VALUE) (λ k. in_field is_value (memwb.field_of k)) MEM_WB_BITS ≡ true
unfolding located
value-tried = refl

unused-tried : agree_below (is_set EXECUTED_UNUSED) (λ k. in_field (λ f. not (is_executed_valid f)) (exmem.field_of k)) EX_MEM_BITS ≡ true
unfolding located
unused-tried = refl

cause-tried : agree_below (is_set EXECUTED_CAUSE) (λ k. in_field is_cause (exmem.field_of k)) EX_MEM_BITS ≡ true
unfolding located
cause-tried = refl

-- a rule and its bits
abbrev pub of : Rule → ℕ → RuleMask
of rule mask = record { rule = rule; mask = mask }

pub result-marked : (note : Note) (quiet : Bool) (empty masked : ℕ) → empty ≡ (if note.result_rd == 0 then RESULT_VALUE else 0)
    → masked ≡ (if quiet then note.masks.memwb else 0) → (k : ℕ) (place : MemWbField × ℕ) → k < MEM_WB_BITS → memwb.field_of k ≡ Some place
    → first_of (of EmptyPlace empty ∷ of Masked masked ∷ []) k ≡ class_by (result_tests note quiet k place.0)
unfolding class_by result_tests no_rule
result-marked note quiet empty masked is_empty is_masked k place l at =
    rw (
      is_empty,
      is_masked,
      when-set (note.result_rd == 0) RESULT_VALUE k,
      marks is_value memwb.field_of (is_set RESULT_VALUE) MEM_WB_BITS value-tried k place l at,
      when-set quiet note.masks.memwb k,
    )
    refl

pub executed-marked : (note : Note) (quiet : Bool) (empty masked cause : ℕ) → empty ≡ (if not note.occupied then EXECUTED_UNUSED else 0)
    → masked ≡ (if quiet then note.masks.exmem else 0) → cause ≡ (if note.occupied then (if not note.traps then EXECUTED_CAUSE else 0) else 0)
    → (k : ℕ) (place : ExMemField × ℕ) → k < EX_MEM_BITS → exmem.field_of k ≡ Some place
    → first_of (of EmptyPlace empty ∷ of Masked masked ∷ of NoTrapCause cause ∷ []) k ≡ class_by (executed_tests note quiet k place.0)
unfolding class_by executed_tests no_rule
executed-marked note quiet empty masked cause is_empty is_masked cause_is k place l at =
    rw (
      is_empty,
      is_masked,
      cause_is,
      when-set (not note.occupied) EXECUTED_UNUSED k,
      marks (λ f. not (is_executed_valid f)) exmem.field_of (is_set EXECUTED_UNUSED) EX_MEM_BITS unused-tried k place l at,
      when-set quiet note.masks.exmem k,
      when-set note.occupied (if not note.traps then EXECUTED_CAUSE else 0) k,
      when-set (not note.traps) EXECUTED_CAUSE k,
      marks is_cause exmem.field_of (is_set EXECUTED_CAUSE) EX_MEM_BITS cause-tried k place l at,
    )
    refl
