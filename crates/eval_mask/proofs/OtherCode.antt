-- Another code in a completed ID/EX, and the register that an instruction names but doesn't write.
use Rattle.std.proofs.Common.{◌≡◌, ◌↔◌, ℕ, ◌+◌, ◌-◌, ◌<◌, ◌≤◌, Bool, true, false, refl, sym, ◌∙◌, ap, subst, arith}
use Rattle.std.specs.Prelude.{IsTrue}
use Rattle.elf_load.specs.Image.{LoadedImage}
use Rattle.bit_field.specs.Layouts.{flip}
use Rattle.rv_table.specs.Actions.{action, asked, asked_by, counter_by, is_clocked, judged, next_address, taken_by, target_by, value_by, with_counter}
use Rattle.rv_table.specs.Operations.{operation_of}
use Rattle.rv_table.specs.declared.operation.Operation.{Operation}
use Rattle.rv_table.specs.declared.operation.Operation.TheVariants.{Illegal, FetchFault, Lui, Auipc, Jal, Jalr, Branch, Load, Store}
use Rattle.rv_table.specs.declared.operation.Operation.TheVariants.{AluImmediate, Alu, Fence, Ecall, Ebreak, ReadCounter}
use Rattle.rv_isa.specs.Architecture.{ArchState, state_of}
use Rattle.pipe_latch.specs.DecodedBits as decoded
use Rattle.pipe_latch.specs.Latches.{DecodedLatch, ExecutedLatch, ResultLatch, op_of_latch}
use Rattle.need_pass.specs.Tables.{Needs}
use Rattle.eval_mask.specs.Aftermaths.{doing_of, doing_with, operand_after}
use Rattle.eval_mask.specs.Cases.{IsCase}
use Rattle.eval_mask.specs.LatchMasks.{IsDecodedMasked}
use Rattle.eval_mask.specs.OtherDoings.{DoesAlike}
use Rattle.eval_mask.specs.Unread.{DoesTheSame, writes_register}
use Rattle.eval_mask.specs.declared.cases.Case.{Case}
use Rattle.eval_mask.specs.declared.completing.Doing.{Doing}
use Rattle.eval_mask.specs.declared.completing.Write.{Write}
use Rattle.eval_mask.proofs.Completed.{doing_told}
use Rattle.eval_mask.proofs.Doings.{doing_exactly, doing_never}
use Rattle.eval_mask.proofs.Fields.{decoded_inside, flip_keeps, op_flipped, rd_flipped}
use Rattle.eval_mask.proofs.Masked.{decoded_exactly}
use Rattle.eval_mask.proofs.OwnChange.{own_write}

-- ---- another code

code_does : (needs : Needs) (arch : ArchState) (w : ResultLatch) (m : ExecutedLatch) (d : DecodedLatch) (case : Case) (v : ℕ) (r : Bool)
    → IsCase needs arch w m d case
    → IsTrue r ↔ DoesAlike needs arch case (doing_with arch.image (record d { op = v }) case.issued case.a case.held)
    → IsTrue r ↔ DoesAlike needs arch case (doing_of arch.image w m (record d { op = v }) (state_of arch).memory case.issued)
code_does needs arch w m d case v r is h =
    let below = case.own.below.write in
    let other : DecodedLatch = record d { op = v } in
    subst (λ (z : Doing). IsTrue r ↔ DoesAlike needs arch case z)
    (ap (λ (a : ℕ). doing_with arch.image other case.issued a case.held) is.a
    ∙ ap (λ (b : ℕ). doing_with arch.image other case.issued (operand_after below w d.rs1 d.a) b) is.held
    ∙ doing_told arch.image w m other (state_of arch).memory below case.issued (own_write needs arch w m d case is)) h

pub code_exactly : (needs : Needs) (arch : ArchState) (w : ResultLatch) (m : ExecutedLatch) (d other : DecodedLatch) (case : Case) (i : ℕ) (r : Bool)
    → IsCase needs arch w m d case → case.on_path ≡ true → case.reached ≡ true → i < 6 → other ≡ decoded.flipped d (31 + i)
    → is_clocked (op_of_latch other) ≡ false → IsTrue r ↔ DoesAlike needs arch case (doing_with arch.image other case.issued case.a case.held)
    → IsTrue r ↔ IsDecodedMasked needs arch (record { w = w; m = m; d = d }) case.oldest.value case.npc case.issued (31 + i)
code_exactly needs arch w m d other case i r is on reached l e clock h =
    let is_code : other ≡ record d { op = flip d.op i } = e ∙ sym (op_flipped d i l) in
    let does = code_does needs arch w m d case (flip d.op i) r is (rw is_code at h) in
    let asked =
    doing_exactly needs arch w m d other case r is reached (rw e (flip_keeps d (31 + i) (omega arith) (omega arith))) clock
    (rw (sym is_code) at does) in
    decoded_exactly needs arch w m d case (31 + i) r is on (decoded_inside (31 + i) (omega arith) (omega arith)) (rw e at asked)

pub code_never : (needs : Needs) (arch : ArchState) (w : ResultLatch) (m : ExecutedLatch) (d other : DecodedLatch) (case : Case) (i : ℕ)
    → IsCase needs arch w m d case → case.on_path ≡ true → case.reached ≡ true → i < 6 → other ≡ decoded.flipped d (31 + i)
    → is_clocked (op_of_latch other) ≡ true
    → IsTrue false ↔ IsDecodedMasked needs arch (record { w = w; m = m; d = d }) case.oldest.value case.npc case.issued (31 + i)
code_never needs arch w m d other case i is on reached l e clock =
    let asked =
    doing_never needs arch w m d other case is reached (rw e (flip_keeps d (31 + i) (omega arith) (omega arith))) clock in
    decoded_exactly needs arch w m d case (31 + i) false is on (decoded_inside (31 + i) (omega arith) (omega arith)) (rw e at asked)

-- ---- a register that isn't written

any_register : (image : LoadedImage) (d : DecodedLatch) (x a held v : ℕ) (o : Operation) → operation_of d.op ≡ o → writes_register o ≡ false
    → doing_with image (record d { rd = v }) x a held ≡ doing_with image d x a held
unfolding doing_with action judged asked asked_by value_by next_address taken_by target_by with_counter counter_by
any_register image d x a held v Illegal e u = rw e refl
any_register image d x a held v FetchFault e u = rw e refl
any_register image d x a held v Lui e u = absurd (grind arith)
any_register image d x a held v Auipc e u = absurd (grind arith)
any_register image d x a held v Jal e u = absurd (grind arith)
any_register image d x a held v Jalr e u = absurd (grind arith)
any_register image d x a held v (Branch kind) e u = rw e refl
any_register image d x a held v (Load kind) e u = absurd (grind arith)
any_register image d x a held v (Store kind) e u = rw e refl
any_register image d x a held v (AluImmediate kind) e u = absurd (grind arith)
any_register image d x a held v (Alu kind) e u = absurd (grind arith)
any_register image d x a held v Fence e u = rw e refl
any_register image d x a held v Ecall e u = rw e refl
any_register image d x a held v Ebreak e u = rw e refl
any_register image d x a held v (ReadCounter counter) e u = absurd (grind arith)

same_clock : (d : DecodedLatch) (v : ℕ) → is_clocked (op_of_latch (record d { rd = v })) ≡ is_clocked (op_of_latch d)
unfolding is_clocked
same_clock d v = refl

pub register_unread : (w : ResultLatch) (d : DecodedLatch) (below : Write) (k : ℕ) → 37 ≤ k → k < 42 → writes_register (operation_of d.op) ≡ false
    → DoesTheSame w below d (decoded.flipped d k)
register_unread w d below k from to u =
    let back : 37 + (k - 37) ≡ k = omega arith in
    subst (λ (n : ℕ). DoesTheSame w below d (decoded.flipped d n)) back
    (subst (DoesTheSame w below d) (rd_flipped d (k - 37) (omega arith))
    (record {
      doing =
          λ image x.
          any_register image d x (operand_after below w d.rs1 d.a) (operand_after below w d.rs2 d.b) (flip d.rd (k - 37)) (operation_of d.op) refl u;
      clock = same_clock d (flip d.rd (k - 37));
    }))
