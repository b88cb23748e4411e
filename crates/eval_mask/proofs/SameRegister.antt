-- Whatever its operands are, an instruction that doesn't end the run writes the same register; so another value of EX/MEM stays seen where it
-- lasts.
use Rattle.std.proofs.Common.{◌≡◌, ℕ, ◌/◌, Bool, true, false, refl, sym, ◌∙◌, ap, subst, arith}
use Rattle.std.specs.Prelude.{◌==◌, ◌&&◌, not, None, slice_index, if◌then◌else◌}
use Rattle.elf_load.specs.Image.{LoadedImage, executable, word_in_ram}
use Rattle.rv_table.specs.Actions.{action, asked, asked_by, is_aligned, judged, misses_target, some_executable, with_counter}
use Rattle.rv_table.specs.Arithmetic.{sum32}
use Rattle.rv_table.specs.declared.trap.TheConstants.{LOAD_FAULT, STORE_FAULT, UNKNOWN_CALL}
use Rattle.rv_table.specs.Accesses.{load_size, store_size}
use Rattle.rv_table.specs.Effects.{written_register}
use Rattle.rv_table.specs.Operations.{operation_of}
use Rattle.rv_table.specs.declared.op.Op.{Op}
use Rattle.rv_table.specs.declared.action.Action.{Action}
use Rattle.rv_table.specs.declared.action.Action.TheVariants.{Exits, Loads, Puts, Stores, Traps, Writes}
use Rattle.rv_table.specs.declared.operation.Operation.{Operation}
use Rattle.rv_table.specs.declared.operation.Operation.TheVariants.{Illegal, FetchFault, Lui, Auipc, Jal, Jalr, Branch, Load, Store}
use Rattle.rv_table.specs.declared.operation.Operation.TheVariants.{AluImmediate, Alu, Fence, Ecall, Ebreak, ReadCounter}
use Rattle.rv_isa.specs.Architecture.{ArchState, state_of}
use Rattle.rv_isa.specs.Instruction.{end_of}
use Rattle.pipe_latch.specs.Latches.{DecodedLatch, ExecutedLatch, ResultLatch, op_of_latch}
use Rattle.need_pass.specs.Tables.{Needs}
use Rattle.eval_mask.specs.Aftermaths.{change_of, doing_after, doing_with, left_by, state_after, written}
use Rattle.eval_mask.specs.Agreement.{Agree}
use Rattle.eval_mask.specs.Cases.{AgreesWithOwn, IsCase}
use Rattle.eval_mask.specs.Compared.{SameWhere}
use Rattle.eval_mask.specs.WrittenValues.{left_below, with_value}
use Rattle.eval_mask.specs.declared.cases.Case.{Case}
use Rattle.eval_mask.specs.declared.completing.Aftermath.{Aftermath}
use Rattle.eval_mask.specs.declared.completing.Change.{Change}
use Rattle.eval_mask.specs.declared.completing.Doing.{Doing}
use Rattle.eval_mask.specs.declared.completing.Write.{Write}
use Rattle.eval_mask.proofs.Agreeing.{agree_end}
use Rattle.eval_mask.proofs.Doings.{own_is}
use Rattle.eval_mask.proofs.LastingValues.{below_seen, ended_or, nothing}
use Rattle.eval_mask.proofs.ReadInputs.{own_doing}
use Rattle.eval_mask.proofs.WrittenValues.{by_reached}

-- the register that an operation writes
unfoldable register_by : Operation → ℕ → ℕ
register_by Lui rd = rd
register_by Auipc rd = rd
register_by Jal rd = rd
register_by Jalr rd = rd
register_by (Load kind) rd = rd
register_by (AluImmediate kind) rd = rd
register_by (Alu kind) rd = rd
register_by (ReadCounter counter) rd = rd
register_by _ rd = 0

-- an action ends the run, or writes register r
record WritesUnlessEnded (r : ℕ) (done : Action) : Type 0 where
  unless : end_of done ≡ None → written_register done ≡ r

either : (t : Bool) (r : ℕ) (x y : Action) → WritesUnlessEnded r x → WritesUnlessEnded r y → WritesUnlessEnded r (if t then x else y)
either true r x y h k = h
either false r x y h k = k

writes : (rd value : ℕ) → WritesUnlessEnded rd (Writes rd value)
writes rd value = record { unless = λ none. refl }

traps : (r cause : ℕ) → WritesUnlessEnded r (Traps cause)
traps r cause = record { unless = λ none. absurd (grind arith) }

judged_either : (ram executable : ℕ → Bool) (t : Bool) (r : ℕ) (x y : Action) → WritesUnlessEnded r (judged ram executable x)
    → WritesUnlessEnded r (judged ram executable y) → WritesUnlessEnded r (judged ram executable (if t then x else y))
judged_either ram executable true r x y h k = h
judged_either ram executable false r x y h k = k

by_operation : (ram executable : ℕ → Bool) (o : Operation) (op : Op) (pc a b : ℕ) → WritesUnlessEnded (register_by o op.rd) (judged ram executable (asked_by o op pc a b))
unfolding judged asked_by register_by
by_operation ram executable Illegal op pc a b = traps _ _
by_operation ram executable FetchFault op pc a b = traps _ _
by_operation ram executable Lui op pc a b = writes _ _
by_operation ram executable Auipc op pc a b = writes _ _
by_operation ram executable Jal op pc a b = judged_either ram executable (misses_target Jal op pc a b) op.rd _ _ (traps _ _) (writes _ _)
by_operation ram executable Jalr op pc a b = judged_either ram executable (misses_target Jalr op pc a b) op.rd _ _ (traps _ _) (writes _ _)
by_operation ram executable (Branch kind) op pc a b = judged_either ram executable (misses_target (Branch kind) op pc a b) 0 _ _ (traps _ _) (writes _ _)
by_operation ram executable (Load kind) op pc a b =
    let x = sum32 a op.imm in
    judged_either ram executable (is_aligned (load_size kind) x) op.rd _ _
    (either (ram (x / 4)) op.rd (Loads kind op.rd x) (Traps LOAD_FAULT) (record { unless = λ none. refl }) (traps _ _)) (traps _ _)
by_operation ram executable (Store kind) op pc a b =
    let x = sum32 a op.imm in
    judged_either ram executable (is_aligned (store_size kind) x) 0 _ _
    (either (ram (x / 4) && not (some_executable executable x (store_size kind))) 0 (Stores kind x b) (Traps STORE_FAULT) (record { unless = λ none. refl }) (traps _ _))
    (traps _ _)
by_operation ram executable Fence op pc a b = writes _ _
by_operation ram executable Ecall op pc a b =
    judged_either ram executable (a == 1) 0 (Puts b) (if a == 93 then Exits b else Traps UNKNOWN_CALL) (record { unless = λ none. refl })
    (judged_either ram executable (a == 93) 0 (Exits b) (Traps UNKNOWN_CALL) (record { unless = λ none. absurd (grind arith) }) (traps _ _))
by_operation ram executable Ebreak op pc a b = traps _ _
by_operation ram executable (AluImmediate kind) op pc a b = writes _ _
by_operation ram executable (Alu kind) op pc a b = writes _ _
by_operation ram executable (ReadCounter counter) op pc a b = writes _ _

same_written : (image : LoadedImage) (d : DecodedLatch) (x a held b other : ℕ) → end_of (doing_with image d x a held).action ≡ None
    → end_of (doing_with image d x b other).action ≡ None
    → written_register (doing_with image d x a held).action ≡ written_register (doing_with image d x b other).action
unfolding doing_with action asked
same_written image d x a held b other e f =
    let op = op_of_latch d in
    let in_ram = word_in_ram image in
    let forbidden = executable image in
    (by_operation in_ram forbidden (operation_of d.op) op d.pc a (with_counter op 0 x held)).unless e
    ∙ sym ((by_operation in_ram forbidden (operation_of d.op) op d.pc b (with_counter op 0 x other)).unless f)

above_is : (image : LoadedImage) (first : Write) (below : Change) (doing : Doing) (memory : ℕ → ℕ)
    → ((left_by image first below doing memory).above.write.rd ≡ written_register doing.action) × ((left_by image first below doing memory).end ≡ end_of doing.action)
unfolding left_by change_of
above_is image first below doing memory = (refl, refl)

written_is : (image : LoadedImage) (first : Write) (below : Change) (doing : Doing) (memory : ℕ → ℕ) → (left_by image first below doing memory).below.write ≡ below.write
unfolding left_by
written_is image first below doing memory = refl

pub below_lasts : (needs : Needs) (arch : ArchState) (w : ResultLatch) (m : ExecutedLatch) (d : DecodedLatch) (case : Case) (value : ℕ) → IsCase needs arch w m d case
    → AgreesWithOwn needs arch case (left_below arch.image w d (state_of arch).memory case value)
    → SameWhere 32 case.lasting.below value case.own.below.write.value
below_lasts needs arch w m d case value is a =
    let image = arch.image in
    let memory = (state_of arch).memory in
    let f = written case.oldest (slice_index arch.registers) in
    let below = with_value case.own.below value in
    let completed : Aftermath = left_by image case.own.first below (doing_after image w d below.write case.issued) memory in
    let stopped : Aftermath = record case.own { below = below } in
    let left : Bool → Aftermath = λ t. if t then completed else stopped in
    let agrees : Aftermath → Type 0 = λ x. Agree needs case.first_after (state_after x f memory) (state_after case.own f memory) in
    ended_or case.own.end (SameWhere 32 case.lasting.below value case.own.below.write.value)
    (λ none.
    by_reached case.reached (SameWhere 32 case.lasting.below value case.own.below.write.value)
    (λ on.
    let here : agrees completed = subst (λ (t : Bool). agrees (left t)) on a in
    let own = own_is needs arch w m d case is on in
    let does = own_doing needs arch w m d case is in
    let ends : end_of (doing_after image w d below.write case.issued).action ≡ None =
    sym ((above_is image case.own.first below (doing_after image w d below.write case.issued) memory).1)
    ∙ agree_end needs case.first_after f memory completed case.own here
    ∙ none in
    let own_ends : end_of (doing_with image d case.issued case.a case.held).action ≡ None =
    ap (λ (x : Doing). end_of x.action) (sym does)
    ∙ sym ((above_is image _ _ case.doing memory).1)
    ∙ ap (λ (x : Aftermath). x.end) (sym own)
    ∙ none in
    let register : completed.above.write.rd ≡ case.own.above.write.rd =
    (above_is image case.own.first below (doing_after image w d below.write case.issued) memory).0
    ∙ same_written image d case.issued _ _ case.a case.held ends own_ends
    ∙ ap (λ (x : Doing). written_register x.action) (sym does)
    ∙ sym ((above_is image _ _ case.doing memory).0)
    ∙ ap (λ (x : Aftermath). x.above.write.rd) (sym own) in
    below_seen needs case.first_after f memory case.own case.lasting completed value is.lasting none (written_is image case.own.first below _ memory) register here)
    (λ off.
    let here : agrees stopped = subst (λ (t : Bool). agrees (left t)) off a in
    below_seen needs case.first_after f memory case.own case.lasting stopped value is.lasting none refl refl here))
    (λ some. nothing case.lasting.below value case.own.below.write.value ((is.lasting.ended some).1))
