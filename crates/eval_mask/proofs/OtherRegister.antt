-- An instruction that names another register to write can't leave the same, where what is written is needed.
use Rattle.std.proofs.Common.{◌≡◌, ℕ, ◌+◌, ◌-◌, ◌*◌, ◌/◌, ◌^◌, ◌<◌, ◌≤◌, Bool, true, false, refl, sym, ◌∙◌, ap, subst, arith, inl, inr}
use Rattle.std.specs.Prelude.{◌⊎◌, ◌==◌, ◌&&◌, not, Option, None, Some, if◌then◌else◌}
use Rattle.std.specs.Int.{bit_at}
use Rattle.std.proofs.lemmas.Nat.Bits.{bit_at-lt, bit_at-pow_same, bit_at_xor}
use Rattle.elf_load.specs.Image.{LoadedImage, executable, word_in_ram}
use Rattle.bit_field.specs.Layouts.{flip}
use Rattle.rv_table.specs.Actions.{action, asked, asked_by, is_aligned, judged, misses_target, some_executable, value_by, with_counter}
use Rattle.rv_table.specs.Accesses.{load_size, store_size}
use Rattle.rv_table.specs.Arithmetic.{sum32}
use Rattle.rv_table.specs.declared.trap.TheConstants.{FETCH_FAULT, MISALIGNED_TARGET, ILLEGAL_INSTRUCTION, MISALIGNED_ACCESS, LOAD_FAULT, STORE_FAULT, BREAKPOINT, UNKNOWN_CALL}
use Rattle.rv_table.specs.Effects.{written_register}
use Rattle.rv_table.specs.Operations.{operation_of}
use Rattle.rv_table.specs.declared.action.Action.{Action}
use Rattle.rv_table.specs.declared.action.Action.TheVariants.{Nothing, Writes, Loads, Stores, Puts, Exits, Traps}
use Rattle.rv_table.specs.declared.op.Op.{Op}
use Rattle.rv_table.specs.declared.operation.Operation.{Operation}
use Rattle.rv_table.specs.declared.operation.Operation.TheVariants.{Illegal, FetchFault, Lui, Auipc, Jal, Jalr, Branch, Load, Store}
use Rattle.rv_table.specs.declared.operation.Operation.TheVariants.{AluImmediate, Alu, Fence, Ecall, Ebreak, ReadCounter}
use Rattle.rv_isa.specs.Architecture.{ArchState, state_of}
use Rattle.pipe_latch.specs.DecodedBits as decoded
use Rattle.pipe_latch.specs.Latches.{DecodedLatch, ExecutedLatch, ResultLatch, op_of_latch}
use Rattle.need_pass.specs.Tables.{Needs}
use Rattle.eval_mask.specs.Aftermaths.{change_of, doing_after, doing_with, left_by, operand_after}
use Rattle.eval_mask.specs.Cases.{IsCase}
use Rattle.eval_mask.specs.Compared.{covers}
use Rattle.eval_mask.specs.LatchMasks.{IsDecodedMasked}
use Rattle.eval_mask.specs.OtherDoings.{Misses, NeedsOwn}
use Rattle.eval_mask.specs.declared.cases.Case.{Case}
use Rattle.eval_mask.specs.declared.completing.Aftermath.{Aftermath}
use Rattle.eval_mask.specs.declared.completing.Change.{Change}
use Rattle.eval_mask.specs.declared.completing.Doing.{Doing}
use Rattle.eval_mask.specs.declared.completing.Store.{Store as Kept}
use Rattle.eval_mask.specs.declared.completing.Write.{Write}
use Rattle.eval_mask.proofs.Doings.{own_left}
use Rattle.eval_mask.proofs.Fields.{rd_flipped}
use Rattle.eval_mask.proofs.Masked.{not_true}
use Rattle.eval_mask.proofs.Missed.{missed_never}
use Rattle.eval_mask.proofs.ReadInputs.{input_exactly, own_doing}

-- ---- the register that an instruction writes is the one that it names, or none

record Names (rd : ℕ) (done : Action) : Type 0 where
  names : (written_register done ≡ 0) ⊎ (written_register done ≡ rd)

none : (rd : ℕ) (done : Action) → written_register done ≡ 0 → Names rd done
none rd done e = record { names = inl e }

this : (rd : ℕ) (done : Action) → written_register done ≡ rd → Names rd done
this rd done e = record { names = inr e }

names_if : (rd : ℕ) (t : Bool) (x y : Action) → Names rd x → Names rd y → Names rd (if t then x else y)
names_if rd true x y a b = a
names_if rd false x y a b = b

asked_names : (o : Operation) (op : Op) (pc a b : ℕ) → Names op.rd (asked_by o op pc a b)
unfolding asked_by
asked_names Illegal op pc a b = none op.rd (Traps ILLEGAL_INSTRUCTION) refl
asked_names FetchFault op pc a b = none op.rd (Traps FETCH_FAULT) refl
asked_names Lui op pc a b = this op.rd (Writes op.rd (value_by Lui op (4 * pc) a b)) refl
asked_names Auipc op pc a b = this op.rd (Writes op.rd (value_by Auipc op (4 * pc) a b)) refl
asked_names Jal op pc a b =
    names_if op.rd (misses_target Jal op pc a b) (Traps MISALIGNED_TARGET) (Writes op.rd (value_by Jal op (4 * pc) a b)) (none op.rd (Traps MISALIGNED_TARGET) refl)
    (this op.rd (Writes op.rd (value_by Jal op (4 * pc) a b)) refl)
asked_names Jalr op pc a b =
    names_if op.rd (misses_target Jalr op pc a b) (Traps MISALIGNED_TARGET) (Writes op.rd (value_by Jalr op (4 * pc) a b)) (none op.rd (Traps MISALIGNED_TARGET) refl)
    (this op.rd (Writes op.rd (value_by Jalr op (4 * pc) a b)) refl)
asked_names (Branch kind) op pc a b =
    names_if op.rd (misses_target (Branch kind) op pc a b) (Traps MISALIGNED_TARGET) (Writes 0 0) (none op.rd (Traps MISALIGNED_TARGET) refl) (none op.rd (Writes 0 0) refl)
asked_names (Load kind) op pc a b =
    let x = sum32 a op.imm in
    names_if op.rd (is_aligned (load_size kind) x) (Loads kind op.rd x) (Traps MISALIGNED_ACCESS) (this op.rd (Loads kind op.rd x) refl)
    (none op.rd (Traps MISALIGNED_ACCESS) refl)
asked_names (Store kind) op pc a b =
    let x = sum32 a op.imm in
    names_if op.rd (is_aligned (store_size kind) x) (Stores kind x b) (Traps MISALIGNED_ACCESS) (none op.rd (Stores kind x b) refl)
    (none op.rd (Traps MISALIGNED_ACCESS) refl)
asked_names (AluImmediate kind) op pc a b = this op.rd (Writes op.rd (value_by (AluImmediate kind) op (4 * pc) a b)) refl
asked_names (Alu kind) op pc a b = this op.rd (Writes op.rd (value_by (Alu kind) op (4 * pc) a b)) refl
asked_names Fence op pc a b = none op.rd (Writes 0 0) refl
asked_names Ecall op pc a b =
    names_if op.rd (a == 1) (Puts b) (if a == 93 then Exits b else Traps UNKNOWN_CALL) (none op.rd (Puts b) refl)
    (names_if op.rd (a == 93) (Exits b) (Traps UNKNOWN_CALL) (none op.rd (Exits b) refl) (none op.rd (Traps UNKNOWN_CALL) refl))
asked_names Ebreak op pc a b = none op.rd (Traps BREAKPOINT) refl
asked_names (ReadCounter counter) op pc a b = this op.rd (Writes op.rd (value_by (ReadCounter counter) op (4 * pc) a b)) refl

judged_names : (ram code : ℕ → Bool) (rd : ℕ) (done : Action) → Names rd done → Names rd (judged ram code done)
unfolding judged
judged_names ram code rd Nothing n = n
judged_names ram code rd (Writes r value) n = n
judged_names ram code rd (Loads kind r x) n = names_if rd (ram (x / 4)) (Loads kind r x) (Traps LOAD_FAULT) n (none rd (Traps LOAD_FAULT) refl)
judged_names ram code rd (Stores kind x y) n =
    names_if rd (ram (x / 4) && not (some_executable code x (store_size kind))) (Stores kind x y) (Traps STORE_FAULT) n (none rd (Traps STORE_FAULT) refl)
judged_names ram code rd (Puts value) n = n
judged_names ram code rd (Exits value) n = n
judged_names ram code rd (Traps cause) n = n

doing_names : (image : LoadedImage) (d : DecodedLatch) (x a held : ℕ) → Names d.rd (doing_with image d x a held).action
unfolding doing_with action asked
doing_names image d x a held =
    let b = with_counter (op_of_latch d) 0 x held in
    judged_names (word_in_ram image) (executable image) d.rd (asked_by (operation_of d.op) (op_of_latch d) d.pc a b)
    (asked_names (operation_of d.op) (op_of_latch d) d.pc a b)

-- ---- another register

flip_differs : (v i : ℕ) → flip v i ≡ v → ⊥
flip_differs v i e =
    let same : bit_at (flip v i) i ≡ bit_at v i = ap (λ (n : ℕ). bit_at n i) e in
    omega (arith, same, bit_at_xor v (2 ^ i) i, bit_at-pow_same i, bit_at-lt v i)

written_is : (image : LoadedImage) (first : Write) (below : Change) (doing : Doing) (memory : ℕ → ℕ) (own : Aftermath)
    → own ≡ left_by image first below doing memory → own.above.write.rd ≡ written_register doing.action
unfolding left_by change_of
written_is image first below doing memory own e = rw e refl

-- of two instructions that name different registers, one that writes its own isn't the other
names_apart : (rd other : ℕ) (a b : Action) (own : ℕ) → (other ≡ rd → ⊥) → own ≡ written_register a → Names rd a → Names other b → own ≡ written_register b → own ≡ 0
names_apart rd other a b own ne is m n same = elim m.names [
  | inl e ↦ is ∙ e
  | inr e ↦ elim n.names [ inl f ↦ same ∙ f | inr f ↦ absurd (ne (sym f ∙ sym same ∙ is ∙ e)) ]
]

uncovered_none : (store : Option Kept) (p : ℕ) → store ≡ None → covers store p ≡ true → ⊥
uncovered_none None p e c = grind arith
uncovered_none (Some store) p e c = grind arith

pub register_never : (needs : Needs) (arch : ArchState) (w : ResultLatch) (m : ExecutedLatch) (d : DecodedLatch) (case : Case) (k : ℕ) → IsCase needs arch w m d case
    → case.on_path ≡ true → case.reached ≡ true → case.reads_clock ≡ false → NeedsOwn needs arch case → case.own.above.store ≡ None
    → 37 ≤ k → k < 42 → IsDecodedMasked needs arch (record { w = w; m = m; d = d }) case.oldest.value case.npc case.issued k → ⊥
register_never needs arch w m d case k is on reached unread needed none from to masked =
    let back : 37 + (k - 37) ≡ k = omega arith in
    let other : DecodedLatch = record d { rd = flip d.rd (k - 37) } in
    let flipped : other ≡ decoded.flipped d k = rd_flipped d (k - 37) (omega arith) ∙ ap (decoded.flipped d) back in
    let own = own_left needs arch w m d case is reached in
    let doing = doing_after arch.image w other case.own.below.write case.issued in
    let misses : Misses case.own.above doing.action = record {
      register =
          names_apart d.rd (flip d.rd (k - 37)) case.doing.action doing.action case.own.above.write.rd (flip_differs d.rd (k - 37))
          (written_is arch.image _ _ case.doing (state_of arch).memory case.own own)
          (subst (λ (z : Doing). Names d.rd z.action) (sym (own_doing needs arch w m d case is)) (doing_names arch.image d case.issued case.a case.held))
          (doing_names arch.image other case.issued (operand_after case.own.below.write w d.rs1 d.a) (operand_after case.own.below.write w d.rs2 d.b));
      bytes = λ image p c. absurd (uncovered_none case.own.above.store p none c);
    } in
    not_true
    ((input_exactly needs arch w m d other case k false is on reached unread (omega arith) (omega arith) flipped refl
    (λ t. absurd (not_true t), λ a. absurd (missed_never needs arch case doing needed misses a))).1
    masked)
