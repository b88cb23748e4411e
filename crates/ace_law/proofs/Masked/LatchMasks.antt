-- The masks of the latches say which of their bits are masked.
use Rattle.std.proofs.Common.{◌≡◌, ◌↔◌, ℕ, ◌+◌, ◌<◌, Bool, true, false, [], arith, refl, ap, sym, subst, ◌∙◌}
use Rattle.std.specs.Prelude.{◌==◌, ◌&&◌, Option, Some, None, drop, is_none, nat_lt, slice_index, if◌then◌else◌}
use Rattle.std.proofs.Math.Path.{fun_ext}
use Rattle.std.proofs.lemmas.Bool.Decides.{nat_tests}
use Rattle.avf_base.specs.declared.end.End.{End}
use Rattle.bit_field.proofs.Located.{is_located}
use Rattle.bit_field.specs.declared.places.Structure.TheVariants.{ExMem, IdEx, MemWb}
use Rattle.bit_field.specs.declared.shapes.TheConstants.{MEM_WB_BITS}
use Rattle.elf_load.specs.Image.{LoadedImage}
use Rattle.rv_isa.specs.Architecture.{ArchState, state_of}
use Rattle.rv_isa.specs.Instruction.{State as Arch, put_reg}
use Rattle.pipe_latch.specs.DecodedBits as idex
use Rattle.pipe_latch.specs.ExecutedBits as exmem
use Rattle.pipe_latch.specs.ResultBits as memwb
use Rattle.pipe_latch.specs.declared.ex_mem.ExMemField.{ExMemField}
use Rattle.pipe_latch.specs.declared.ex_mem.ExMemField.TheVariants as of_executed
use Rattle.pipe_latch.specs.declared.id_ex.IdExField.{IdExField}
use Rattle.pipe_latch.specs.declared.id_ex.IdExField.TheVariants as of_decoded
use Rattle.cyc_machine.specs.Pipeline.{register}
use Rattle.cyc_machine.specs.Strikes.{flip_in}
use Rattle.need_pass.specs.Needed.{Needed}
use Rattle.need_pass.specs.ProgramBits.{ProgramBit, Register, Byte, IsProgramBit}
use Rattle.need_pass.specs.Tables.{IsNeedOf, Needs}
use Rattle.need_pass.proofs.Passes.{needed_bit}
use Rattle.eval_mask.specs.Agreement.{IsNeeded}
use Rattle.eval_mask.specs.LatchMasks.{IsDecodedMasked, IsExecutedMasked, IsMasked, IsResultMasked, Latches, Masked, base_of, decoded_field}
use Rattle.eval_mask.specs.LatchMasks.{executed_field, first_after, is_in, is_on_path, result_field}
use Rattle.eval_mask.specs.Seems.{no_log, under}
use Rattle.flush_view.specs.Views.{view}
use Rattle.ace_law.specs.Agreements.{OutcomeAgrees, under_latches}
use Rattle.ace_law.specs.Moments.{IsTold, Moment, decoded, decoded_is_on_path, executed, retired, state, trace}
use Rattle.ace_law.specs.PipelineRules.{IsDecodedPart, IsExecutedPart, IsIn, IsMaskedBit}
use Rattle.ace_law.proofs.Alike.{count_of}
use Rattle.ace_law.proofs.Told.{facts, running-below, state-image}
use Rattle.ace_law.proofs.Masked.Counts.{issued-is}
use Rattle.ace_law.proofs.Masked.Known.{behind-last}
use Rattle.ace_law.proofs.Masked.Latches.{latches_of, reached-on_path}
use Rattle.ace_law.proofs.Masked.Outcomes.{agrees-masked, with_latches}

-- what is needed is needed by the table
pub is-needed : (a : Moment) (table : Needs) → IsNeedOf a.run.entries table → (j : ℕ) (p : ProgramBit)
    → IsProgramBit p → Needed (drop j a.run.entries) p
    → IsNeeded table j p
is-needed a table is j (Register r k) b need = (is.register r k j b.0 b.1 b.2).1 need
is-needed a table is j (Byte p k) b need = (is.byte p k j b.0 b.1).1 need

masked-agrees : (a : Moment) (table : Needs) (l : Latches) → IsNeedOf a.run.entries table
    → IsMasked table (decoded a) (state a).image (under_latches (state a)) (latches_of (state a)) l → OutcomeAgrees a (with_latches (state a) l)
unfolding view
masked-agrees a table l is masked = record {
  unread = masked.unread;
  same =
      record {
        output = masked.agree.output;
        stop = masked.agree.stop;
        next = λ none.
            let next = masked.agree.next none in (
              next.0,
              (λ p need.
                  let b = needed_bit (drop (decoded a) a.run.entries) p need in
                  next.1.same p b (is-needed a table is (decoded a) p b need)),
            );
      };
}

-- a register that is written and then given its old value back
put-back : (f : ℕ → ℕ) (rd v : ℕ) → put_reg rd (f rd) (put_reg rd v f) ≡ f
put-back f rd v = go (rd == 0)
  where
    at : (r : ℕ) (b : Bool) → (r == rd) ≡ b → (if b then f rd else (if b then v else f r)) ≡ f r
    at r true e = let same : rd ≡ r = grind (arith, nat_tests) in ap f same
    at r false e = refl

    go : (z : Bool) → (if z then (if z then f else (λ r. if r == rd then v else f r))
        else (λ r. if r == rd then f rd else (if z then f else (λ q. if q == rd then v else f q)) r)) ≡ f
    go true = refl
    go false = fun_ext (λ r. at r (r == rd) refl)

swapped : (v p q : Bool) → (v && (p && q)) ≡ (v && (q && p))
swapped true true true = refl
swapped true true false = refl
swapped true false true = refl
swapped true false false = refl
swapped false p q = refl

moved : (table : Needs) (l other : Latches) (i j : ℕ) (from to : LoadedImage) (at base : Arch) → i ≡ j → from ≡ to → at ≡ base
    → IsMasked table i from at l other → IsMasked table j to base l other
moved table l other i j from to at base e f g h =
    subst (λ (z : Arch). IsMasked table j to z l other) g
    (subst (λ (im : LoadedImage). IsMasked table j im at l other) f (subst (λ (n : ℕ). IsMasked table n from at l other) e h))

-- ---- fields

decoded-in : (o : Option (IdExField × ℕ)) → (is_in decoded_field o ≡ true) ↔ IsIn IsDecodedPart o
decoded-in None = ((λ e. absurd cc), (λ h. absurd h))
decoded-in (Some place) = go place.0
  where
    go : (f : IdExField) → (decoded_field f ≡ true) ↔ IsDecodedPart f place.1
    go of_decoded.Valid = ((λ e. absurd cc), (λ h. absurd h))
    go of_decoded.Pc = ((λ e. absurd cc), (λ h. absurd h))
    go of_decoded.Count = ((λ e. absurd cc), (λ h. absurd h))
    go _ = ((λ e. tt), (λ h. refl))

executed-in : (o : Option (ExMemField × ℕ)) → (is_in executed_field o ≡ true) ↔ IsIn IsExecutedPart o
executed-in None = ((λ e. absurd cc), (λ h. absurd h))
executed-in (Some place) = go place.0
  where
    go : (f : ExMemField) → (executed_field f ≡ true) ↔ IsExecutedPart f place.1
    go of_executed.Cause = ((λ e. absurd cc), (λ h. absurd h))
    go _ = ((λ e. tt), (λ h. refl))

-- ---- the masks

-- `arch` is the instruction set's state behind MEM/WB, but for clock values, and `old` what its register held before
module _ (a : Moment) (table : Needs) (told : IsTold a.r a.run table) (below : a.t < a.r.cycles) (arch : ArchState) (old : ℕ)
    (image : arch.image ≡ a.r.image)
    (same : under [] no_log (state_of arch) ≡ under [] no_log (trace a (retired a))) (was : old ≡ register (state a).registers (state a).w.rd) where
  registers-is : put_reg (state a).w.rd old (slice_index arch.registers) ≡ register (state a).registers
  registers-is =
      ap (λ (v : ℕ). put_reg (state a).w.rd v (slice_index arch.registers)) was
      ∙ ap (λ (z : Arch). put_reg (state a).w.rd (register (state a).registers (state a).w.rd) z.registers) same
      ∙ ap (put_reg (state a).w.rd (register (state a).registers (state a).w.rd)) (sym (facts a table told below).registers)
      ∙ put-back (register (state a).registers) (state a).w.rd (state a).w.value

  base-is : base_of arch (state a).w.rd old (state a).npc (executed a) ≡ under_latches (state a)
  base-is =
      let memory = ap (λ (z : Arch). z.memory) same ∙ sym (facts a table told below).memory in
      let count = sym (issued-is a table told below) in
      λ j. record {
        registers = registers-is j;
        memory = memory j;
        pc = (state a).npc;
        count = count j;
        clocks = [];
        log = no_log;
        stop = None;
      }

  goes-on : (o : Option End) → (trace a (executed a)).stop ≡ o → nat_lt (executed a) table.count ≡ is_none o
  goes-on None e =
      let l = running-below a table told (executed a) e in
      let count : table.count ≡ count_of a = told.needs.count in
      grind (arith, nat_tests)
  goes-on (Some end) e =
      let m = behind-last a table told (executed a) end e in
      let count : table.count ≡ count_of a = told.needs.count in
      grind (arith, nat_tests)

  pub on-path-is : is_on_path table (state a).d (state a).npc (executed a) ≡ decoded_is_on_path a
  on-path-is =
      let place : (state a).npc ≡ (trace a (executed a)).pc = ap (λ (z : Arch). z.pc) (facts a table told below).position in
      ap (λ (n : ℕ). (state a).d.valid && ((state a).d.pc == n && nat_lt (executed a) table.count)) place
      ∙ ap (λ (b : Bool). (state a).d.valid && ((state a).d.pc == (trace a (executed a)).pc && b)) (goes-on (trace a (executed a)).stop refl)
      ∙ swapped (state a).d.valid ((state a).d.pc == (trace a (executed a)).pc) (is_none (trace a (executed a)).stop)
      ∙ sym (reached-on_path (state a) (trace a) (executed a))

  first-is : first_after table (state a).d (state a).npc (executed a) ≡ decoded a
  first-is = ap (λ (b : Bool). if b then executed a + 1 else executed a) on-path-is

  image-is : arch.image ≡ (state a).image
  image-is = image ∙ sym (state-image a table told)

  -- of any other latches
  pub outcome-iff : (l : Latches) → Masked table arch (latches_of (state a)) old (state a).npc (executed a) l
      ↔ OutcomeAgrees a (with_latches (state a) l)
  outcome-iff l = (
    (λ masked.
        masked-agrees a table l told.needs (moved table (latches_of (state a)) l _ _ _ _ _ _ first-is image-is base-is masked)),
    (λ agrees.
        moved table (latches_of (state a)) l _ _ _ _ _ _ (sym first-is) (sym image-is) (sym base-is) (agrees-masked a table l told.needs agrees)),
  )

  -- bit k of ID/EX, EX/MEM and MEM/WB
  pub decoded-iff : (k : ℕ) → IsDecodedMasked table arch (latches_of (state a)) old (state a).npc (executed a) k ↔ IsMaskedBit a IdEx k
  decoded-iff k =
      let outcome = outcome-iff (latches_of (flip_in IdEx (state a) k)) in
      let part = decoded-in (idex.field_of k) in (
        (λ is. (sym on-path-is ∙ is.on_path, part.0 is.field, outcome.0 is.masked)),
        (λ is. record { on_path = on-path-is ∙ is.0; field = part.1 is.1; masked = outcome.1 is.2 }),
      )

  pub executed-iff : (k : ℕ) → IsExecutedMasked table arch (latches_of (state a)) old (state a).npc (executed a) k ↔ IsMaskedBit a ExMem k
  executed-iff k =
      let outcome = outcome-iff (latches_of (flip_in ExMem (state a) k)) in
      let part = executed-in (exmem.field_of k) in
      ((λ is. (part.0 is.field, outcome.0 is.masked)), (λ is. record { field = part.1 is.0; masked = outcome.1 is.1 }))

  pub result-iff : (k : ℕ) → k < MEM_WB_BITS → IsResultMasked table arch (latches_of (state a)) old (state a).npc (executed a) k
      ↔ IsMaskedBit a MemWb k
  result-iff k l =
      let outcome = outcome-iff (latches_of (flip_in MemWb (state a) k)) in
      let place = is_located memwb.width memwb.layout.fields k l in
      let field : is_in result_field (memwb.field_of k) ≡ true = ap (is_in result_field) place.1 in
      ((λ is. outcome.0 is.masked), (λ is. record { field = field; masked = outcome.1 is }))
