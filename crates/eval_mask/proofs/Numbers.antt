-- Other numbers of registers in ID/EX that hand in the same operand.
use Rattle.std.proofs.Common.{◌≡◌, ℕ, ◌+◌, ◌-◌, ◌<◌, ◌≤◌, refl, ◌∙◌, ap, subst, arith}
use Rattle.elf_load.specs.Image.{LoadedImage}
use Rattle.bit_field.specs.Layouts.{flip}
use Rattle.rv_table.specs.Actions.{action, asked, asked_by, counter_by, is_clocked, judged, next_address, taken_by, target_by, value_by, with_counter}
use Rattle.rv_table.specs.Operations.{operation_of}
use Rattle.rv_table.specs.declared.operation.Operation.{Operation}
use Rattle.rv_table.specs.declared.operation.Operation.TheVariants.{Illegal, FetchFault, Lui, Auipc, Jal, Jalr, Branch, Load, Store}
use Rattle.rv_table.specs.declared.operation.Operation.TheVariants.{AluImmediate, Alu, Fence, Ecall, Ebreak, ReadCounter}
use Rattle.rv_table.specs.declared.operation.CounterKind.TheVariants.{Cycle, Instret, Cycleh, Instreth}
use Rattle.pipe_latch.specs.DecodedBits as decoded
use Rattle.pipe_latch.specs.Latches.{DecodedLatch, ResultLatch, op_of_latch}
use Rattle.eval_mask.specs.Aftermaths.{doing_with, operand_after}
use Rattle.eval_mask.specs.Unread.{DoesTheSame}
use Rattle.eval_mask.specs.declared.completing.Write.{Write}
use Rattle.eval_mask.proofs.Fields.{rs1_flipped, rs2_flipped}

any_number : (image : LoadedImage) (d : DecodedLatch) (x a held u v : ℕ) (o : Operation) → operation_of d.op ≡ o
    → doing_with image (record d { rs1 = u; rs2 = v }) x a held ≡ doing_with image d x a held
unfolding doing_with action judged asked asked_by value_by next_address taken_by target_by with_counter counter_by
any_number image d x a held u v Illegal e = rw e refl
any_number image d x a held u v FetchFault e = rw e refl
any_number image d x a held u v Lui e = rw e refl
any_number image d x a held u v Auipc e = rw e refl
any_number image d x a held u v Jal e = rw e refl
any_number image d x a held u v Jalr e = rw e refl
any_number image d x a held u v (Branch kind) e = rw e refl
any_number image d x a held u v (Load kind) e = rw e refl
any_number image d x a held u v (Store kind) e = rw e refl
any_number image d x a held u v (AluImmediate kind) e = rw e refl
any_number image d x a held u v (Alu kind) e = rw e refl
any_number image d x a held u v Fence e = rw e refl
any_number image d x a held u v Ecall e = rw e refl
any_number image d x a held u v Ebreak e = rw e refl
any_number image d x a held u v (ReadCounter Cycle) e = rw e refl
any_number image d x a held u v (ReadCounter Instret) e = rw e refl
any_number image d x a held u v (ReadCounter Cycleh) e = rw e refl
any_number image d x a held u v (ReadCounter Instreth) e = rw e refl

same_clock : (d : DecodedLatch) (u v : ℕ) → is_clocked (op_of_latch (record d { rs1 = u; rs2 = v })) ≡ is_clocked (op_of_latch d)
unfolding is_clocked
same_clock d u v = refl

pub first_kept : (w : ResultLatch) (d : DecodedLatch) (below : Write) (i : ℕ) → i < 5
    → operand_after below w (flip d.rs1 i) d.a ≡ operand_after below w d.rs1 d.a → DoesTheSame w below d (decoded.flipped d (42 + i))
first_kept w d below i l e =
    subst (DoesTheSame w below d) (rs1_flipped d i l)
    (record {
      doing =
          λ image x.
          any_number image d x (operand_after below w (flip d.rs1 i) d.a) (operand_after below w d.rs2 d.b) (flip d.rs1 i) d.rs2 (operation_of d.op) refl
          ∙ ap (λ (a : ℕ). doing_with image d x a (operand_after below w d.rs2 d.b)) e;
      clock = same_clock d (flip d.rs1 i) d.rs2;
    })

pub second_kept : (w : ResultLatch) (d : DecodedLatch) (below : Write) (i : ℕ) → i < 5
    → operand_after below w (flip d.rs2 i) d.b ≡ operand_after below w d.rs2 d.b → DoesTheSame w below d (decoded.flipped d (47 + i))
second_kept w d below i l e =
    subst (DoesTheSame w below d) (rs2_flipped d i l)
    (record {
      doing =
          λ image x.
          any_number image d x (operand_after below w d.rs1 d.a) (operand_after below w (flip d.rs2 i) d.b) d.rs1 (flip d.rs2 i) (operation_of d.op) refl
          ∙ ap (λ (b : ℕ). doing_with image d x (operand_after below w d.rs1 d.a) b) e;
      clock = same_clock d d.rs1 (flip d.rs2 i);
    })

pub first_kept_at : (w : ResultLatch) (d : DecodedLatch) (below : Write) (k : ℕ) → 42 ≤ k → k < 47
    → operand_after below w (flip d.rs1 (k - 42)) d.a ≡ operand_after below w d.rs1 d.a → DoesTheSame w below d (decoded.flipped d k)
first_kept_at w d below k from to e =
    let back : 42 + (k - 42) ≡ k = omega arith in
    subst (λ (n : ℕ). DoesTheSame w below d (decoded.flipped d n)) back (first_kept w d below (k - 42) (omega arith) e)

pub second_kept_at : (w : ResultLatch) (d : DecodedLatch) (below : Write) (k : ℕ) → 47 ≤ k → k < 52
    → operand_after below w (flip d.rs2 (k - 47)) d.b ≡ operand_after below w d.rs2 d.b → DoesTheSame w below d (decoded.flipped d k)
second_kept_at w d below k from to e =
    let back : 47 + (k - 47) ≡ k = omega arith in
    subst (λ (n : ℕ). DoesTheSame w below d (decoded.flipped d n)) back (second_kept w d below (k - 47) (omega arith) e)
