-- The classes of the bits of MEM/WB and EX/MEM.
use Rattle.std.proofs.Common.{◌≡◌, ◌↔◌, ◌<◌, ◌==◌, not, ℕ, Bool, Decides, arith, refl}
use Rattle.std.specs.Int.{bit_at}
use Rattle.std.specs.Prelude.{Some}
use Rattle.std.proofs.lemmas.Bool.Decides.{Decides-and, Decides-eqb, Decides-like, Decides-not}
use Rattle.bit_field.specs.declared.places.Structure.TheVariants.{ExMem, MemWb}
use Rattle.bit_field.specs.declared.shapes.TheConstants.{EX_MEM_BITS, MEM_WB_BITS}
use Rattle.pipe_latch.specs.ExecutedBits as exmem
use Rattle.pipe_latch.specs.ResultBits as memwb
use Rattle.pipe_latch.specs.declared.ex_mem.ExMemField.{ExMemField}
use Rattle.pipe_latch.specs.declared.ex_mem.ExMemField.TheVariants as of_executed
use Rattle.pipe_latch.specs.declared.mem_wb.MemWbField.{MemWbField}
use Rattle.pipe_latch.specs.declared.mem_wb.MemWbField.TheVariants as of_result
use Rattle.cyc_machine.specs.Pipeline.{register}
use Rattle.need_pass.specs.Tables.{Needs}
use Rattle.ace_law.specs.Classes.{IsClass}
use Rattle.ace_law.specs.Moments.{Moment, state}
use Rattle.ace_law.specs.PipelineRules.{IsCause, IsMaskedBit, IsUnusedExecuted, IsUnusedResult}
use Rattle.ace_law.proofs.Masked.LatchMasks.{executed-iff, result-iff}
use Rattle.ace_rules.specs.FirstRules.{AreTests, class_by, no_rule}
use Rattle.ace_rules.specs.Notes.{IsKnown, IsMaskOf}
use Rattle.ace_rules.specs.PipelineTests.{executed_tests, is_cause, is_executed_valid, is_value, result_tests}
use Rattle.ace_rules.specs.declared.note.Note.{Note}
use Rattle.ace_rules.proofs.FirstRuleLaws.{class-by, never}
use Rattle.ace_rules.proofs.NotedTests.{false-decides, in-decides, number-decides, three-decide, true-decides}

value-decides : (f : MemWbField) (j : ℕ) → Decides (is_value f) (IsUnusedResult f j)
value-decides of_result.Value j = ((λ e. tt), (λ h. refl))
value-decides of_result.Rd j = never (λ h. h)

filled-decides : (f : ExMemField) (j : ℕ) → Decides (not (is_executed_valid f)) (IsUnusedExecuted f j)
filled-decides of_executed.Valid j = never (λ h. h)
filled-decides _ j = ((λ e. tt), (λ h. refl))

cause-decides : (f : ExMemField) (j : ℕ) → Decides (is_cause f) (IsCause f j)
cause-decides of_executed.Cause j = ((λ e. tt), (λ h. refl))
cause-decides _ j = never (λ h. h)

-- a bit of a mask that is set exactly where P holds decides what P amounts to
pub mask-decides : {P Q : Type 0} (mask k : ℕ) → ((bit_at mask k ≡ 1) ↔ P) → (P ↔ Q) → Decides (bit_at mask k == 1) Q
mask-decides mask k set iff = Decides-like _ (λ e. iff.0 (set.0 e)) (λ q. set.1 (iff.1 q)) (Decides-eqb (bit_at mask k) 1)

module _ (a : Moment) (table : Needs) (note : Note) (quiet : Bool) (known : IsKnown a table note quiet) where
  masks : IsMaskOf a table note.masks
  masks = known.noted.masks

  result-masked : (k : ℕ) → k < MEM_WB_BITS → Decides (bit_at note.masks.memwb k == 1) (IsMaskedBit a MemWb k)
  result-masked k l =
      mask-decides note.masks.memwb k (masks.exact.memwb.bits k (omega (arith, l)))
      (result-iff a table known.told known.below masks.arch (register (state a).registers (state a).w.rd) masks.image masks.stands refl k l)

  executed-masked : (k : ℕ) → k < EX_MEM_BITS → Decides (bit_at note.masks.exmem k == 1) (IsMaskedBit a ExMem k)
  executed-masked k l =
      mask-decides note.masks.exmem k (masks.exact.exmem.bits k (omega (arith, l)))
      (executed-iff a table known.told known.below masks.arch (register (state a).registers (state a).w.rd) masks.image masks.stands refl k)

  result-are : (k : ℕ) (place : MemWbField × ℕ) → k < MEM_WB_BITS → memwb.field_of k ≡ Some place
      → AreTests a (record { structure = MemWb; bit = k }) (result_tests note quiet k place.0)
  unfolding result_tests no_rule
  result-are k place l at = record {
    timing = never (λ h. h.1);
    empty_place =
        Decides-and _ _ (number-decides note.result_rd (state a).w.rd 0 known.noted.result_rd)
        (in-decides IsUnusedResult (is_value place.0) (memwb.field_of k) place at (value-decides place.0 place.1));
    wrong_path = never (λ h. h.1);
    on_path = never (λ h. h.1);
    masked = Decides-and quiet _ known.silent (result-masked k l);
    dead_register = never (λ h. h.1);
    dead_data = never (λ h. h.1);
    store_redirection = never (λ h. h.1);
    clean_data = never (λ h. h);
    clean_line = never (λ h. h.1);
    unaccessed_line = never (λ h. h.1);
    clean_tag = never (λ h. h);
    no_trap_cause = never (λ h. h);
  }

  executed-are : (k : ℕ) (place : ExMemField × ℕ) → k < EX_MEM_BITS → exmem.field_of k ≡ Some place
      → AreTests a (record { structure = ExMem; bit = k }) (executed_tests note quiet k place.0)
  unfolding executed_tests no_rule
  executed-are k place l at = record {
    timing = never (λ h. h.1);
    empty_place =
        Decides-and _ _ (false-decides note.occupied (state a).m.valid known.noted.occupied)
        (in-decides IsUnusedExecuted (not (is_executed_valid place.0)) (exmem.field_of k) place at (filled-decides place.0 place.1));
    wrong_path = never (λ h. h.1);
    on_path = never (λ h. h.1);
    masked = Decides-and quiet _ known.silent (executed-masked k l);
    dead_register = never (λ h. h.1);
    dead_data = never (λ h. h.1);
    store_redirection = never (λ h. h.1);
    clean_data = never (λ h. h);
    clean_line = never (λ h. h.1);
    unaccessed_line = never (λ h. h.1);
    clean_tag = never (λ h. h);
    no_trap_cause =
        three-decide _ _ _ (true-decides note.occupied (state a).m.valid known.noted.occupied) (Decides-not note.traps known.noted.traps)
        (in-decides IsCause (is_cause place.0) (exmem.field_of k) place at (cause-decides place.0 place.1));
  }

  pub result_class : (k : ℕ) (place : MemWbField × ℕ) → k < MEM_WB_BITS → memwb.field_of k ≡ Some place
      → IsClass (class_by (result_tests note quiet k place.0)) a (record { structure = MemWb; bit = k })
  result_class k place l at = class-by a _ _ (result-are k place l at)

  pub executed_class : (k : ℕ) (place : ExMemField × ℕ) → k < EX_MEM_BITS → exmem.field_of k ≡ Some place
      → IsClass (class_by (executed_tests note quiet k place.0)) a (record { structure = ExMem; bit = k })
  executed_class k place l at = class-by a _ _ (executed-are k place l at)
