-- What the next instruction does where it doesn't read the cycle counter: it doesn't depend on the clock values, and leaves them all. Where
-- it avoids X, it doesn't depend on the bytes of X either.
use Rattle.std.proofs.Common.{◌≡◌, ◌≤◌, ◌+◌, ℕ, [], ◌∷◌, length, length-append, arith, subst, Bool, false, List, refl, ap, sym, ◌∙◌}
use Rattle.std.specs.Prelude.{if◌then◌else◌}
use Rattle.elf_load.specs.Image.{LoadedImage}
use Rattle.rv_table.specs.Actions.{clock_test, counter_by, is_clocked, next_address, with_counter}
use Rattle.rv_table.specs.Effects.{byte_put}
use Rattle.rv_table.specs.declared.action.Action.{Action}
use Rattle.rv_table.specs.declared.action.Action.TheVariants.{Nothing, Writes, Loads, Stores, Puts, Exits, Traps}
use Rattle.rv_table.specs.declared.op.Op.{Op}
use Rattle.rv_table.specs.Operations.{operation_of}
use Rattle.rv_table.specs.declared.operation.Operation.{Operation}
use Rattle.rv_table.specs.declared.operation.Operation.TheVariants.{Illegal, FetchFault, Lui, Auipc, Jal, Jalr, Branch, Load, Store}
use Rattle.rv_table.specs.declared.operation.Operation.TheVariants.{AluImmediate, Alu, Fence, Ecall, Ebreak, ReadCounter}
use Rattle.rv_table.specs.declared.operation.CounterKind.TheVariants.{Cycle, Instret, Cycleh, Instreth}
use Rattle.rv_isa.specs.Accesses.{next_action}
use Rattle.rv_isa.specs.Instruction.{State as Arch, action_in, completed, end_of, first_clock, instruction, later_clocks}
use Rattle.rv_isa.specs.Instruction.{next_count, op_at, performed, reg, with_action, with_byte}
use Rattle.flush_view.specs.Avoids.{Avoids, masked, outside}
use Rattle.flush_view.proofs.Flush.Avoiding.{instruction-log, outside-completed}

counter-same : (o : Operation) (clock other count b : ℕ) → clock_test o ≡ false → counter_by o clock count b ≡ counter_by o other count b
unfolding clock_test counter_by
counter-same Illegal clock other count b h = refl
counter-same FetchFault clock other count b h = refl
counter-same Lui clock other count b h = refl
counter-same Auipc clock other count b h = refl
counter-same Jal clock other count b h = refl
counter-same Jalr clock other count b h = refl
counter-same (Branch kind) clock other count b h = refl
counter-same (Load kind) clock other count b h = refl
counter-same (Store kind) clock other count b h = refl
counter-same (AluImmediate kind) clock other count b h = refl
counter-same (Alu kind) clock other count b h = refl
counter-same Fence clock other count b h = refl
counter-same Ecall clock other count b h = refl
counter-same Ebreak clock other count b h = refl
counter-same (ReadCounter Cycle) clock other count b h = absurd cc
counter-same (ReadCounter Instret) clock other count b h = refl
counter-same (ReadCounter Cycleh) clock other count b h = refl
counter-same (ReadCounter Instreth) clock other count b h = refl

pub unclocked-operand : (op : Op) (clock other count b : ℕ) → is_clocked op ≡ false → with_counter op clock count b ≡ with_counter op other count b
unfolding is_clocked with_counter
unclocked-operand op clock other count b h = counter-same (operation_of op.code) clock other count b h

-- what an operation leaves over other clock values, whatever it takes for operand b
abbrev left_with : LoadedImage → Op → ℕ → ℕ → Arch → List ℕ → ℕ → Arch
left_with image op pc a at clocks c =
    record (performed image (action_in image op pc a c) at) { pc = next_address op pc a c; count = next_count at.count; clocks = clocks }

kept_clocks : (c : Bool) (clocks : List ℕ) → c ≡ false → (if c then later_clocks clocks else clocks) ≡ clocks
kept_clocks c clocks h = rw h refl

pub unclocked-completed : (image : LoadedImage) (op : Op) (pc a b : ℕ) (clocks : List ℕ) (at : Arch) → is_clocked op ≡ false
    → completed image op pc a b (record at { clocks = clocks }) ≡ record (completed image op pc a b at) { clocks = clocks }
unfolding completed
unclocked-completed image op pc a b clocks at h =
    ap (λ (left : List ℕ). left_with image op pc a at left (with_counter op (first_clock clocks) at.count b)) (kept_clocks (is_clocked op) clocks h)
    ∙ ap (left_with image op pc a at clocks) (unclocked-operand op (first_clock clocks) (first_clock at.clocks) at.count b h)

-- ---- the next instruction

pub unclocked-action : (image : LoadedImage) (memory : ℕ → ℕ) (clocks : List ℕ) (at : Arch) → is_clocked (op_at image at.pc) ≡ false
    → next_action image (record at { memory = memory; clocks = clocks }) ≡ next_action image at
unclocked-action image memory clocks at h =
    ap (action_in image (op_at image at.pc) at.pc (reg at.registers (op_at image at.pc).rs1))
    (unclocked-operand (op_at image at.pc) (first_clock clocks) (first_clock at.clocks) at.count (reg at.registers (op_at image at.pc).rs2) h)

pub unclocked-clocks : (image : LoadedImage) (at : Arch) → is_clocked (op_at image at.pc) ≡ false → (instruction image at).clocks ≡ at.clocks
unfolding instruction completed
unclocked-clocks image at h = kept_clocks (is_clocked (op_at image at.pc)) at.clocks h

pub outside-instruction : (image : LoadedImage) (out : ℕ → Bool) (at : Arch) → Avoids out (next_action image at)
    → outside out (instruction image at) ≡ instruction image (outside out at)
unfolding instruction
outside-instruction image out at h =
    outside-completed image out (op_at image at.pc) at.pc (reg at.registers (op_at image at.pc).rs1) (reg at.registers (op_at image at.pc).rs2) at h

unclocked-instruction : (image : LoadedImage) (clocks : List ℕ) (at : Arch) → is_clocked (op_at image at.pc) ≡ false
    → instruction image (record at { clocks = clocks }) ≡ record (instruction image at) { clocks = clocks }
unfolding instruction
unclocked-instruction image clocks at h =
    unclocked-completed image (op_at image at.pc) at.pc (reg at.registers (op_at image at.pc).rs1)
    (reg at.registers (op_at image at.pc).rs2) clocks at h

-- over the masked memory and other clock values
pub masked-instruction : (image : LoadedImage) (out : ℕ → Bool) (clocks : List ℕ) (at : Arch) → is_clocked (op_at image at.pc) ≡ false
    → Avoids out (next_action image at) → instruction image (record at { memory = masked out at.memory; clocks = clocks })
    ≡ record (instruction image at) { memory = masked out (instruction image at).memory; clocks = clocks }
masked-instruction image out clocks at h avoids =
    unclocked-instruction image clocks (outside out at) h
    ∙ ap (λ (z : Arch). record z { clocks = clocks }) (sym (outside-instruction image out at avoids))

-- its byte and its end
pub instruction-puts : (image : LoadedImage) (at : Arch)
    → (instruction image at).log.output ≡ with_byte at.log.output (byte_put (next_action image at))
unfolding instruction completed
instruction-puts image at = refl

pub instruction-stop : (image : LoadedImage) (at : Arch) → (instruction image at).stop ≡ end_of (next_action image at)
unfolding instruction completed
instruction-stop image at = refl

-- at most one action
longer : (xs : List Action) (x : Action) → length (with_action xs x) ≤ length xs + 1
longer xs Nothing = omega arith
longer xs (Writes rd value) = omega (arith, length-append xs (Writes rd value ∷ []))
longer xs (Loads kind rd x) = omega (arith, length-append xs (Loads kind rd x ∷ []))
longer xs (Stores kind x y) = omega (arith, length-append xs (Stores kind x y ∷ []))
longer xs (Puts value) = omega (arith, length-append xs (Puts value ∷ []))
longer xs (Exits value) = omega (arith, length-append xs (Exits value ∷ []))
longer xs (Traps cause) = omega (arith, length-append xs (Traps cause ∷ []))

pub instruction-longer : (image : LoadedImage) (at : Arch) → length (instruction image at).log.actions ≤ length at.log.actions + 1
instruction-longer image at =
    subst (λ (xs : List Action). length xs ≤ length at.log.actions + 1) (sym (instruction-log image at))
    (longer at.log.actions (next_action image at))
