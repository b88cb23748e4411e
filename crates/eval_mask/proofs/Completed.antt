-- Instructions completed, as the program does it.
use Rattle.std.proofs.Common.{◌≡◌, ℕ, refl, ◌+◌, ◌*◌, ◌/◌, ◌%◌, ◌^◌, ◌<◌, zero, suc, [], ◌∷◌, sym, ◌∙◌, ap, arith}
use Rattle.std.specs.Int.{from_le_bytes, w32}
use Rattle.std.proofs.lemmas.Bool.Decides.{nat_tests}
use Rattle.elf_load.specs.Image.{LoadedImage}
use Rattle.rv_table.specs.Accesses.{byte_of, loaded}
use Rattle.rv_table.specs.Actions.{action, asked, asked_by, counter_by, judged, next_address, taken_by, target_by, value_by, with_counter}
use Rattle.rv_table.specs.Arithmetic.{alu, sum32}
use Rattle.rv_table.specs.Operations.{operation_of}
use Rattle.rv_table.specs.declared.action.Action.{Action}
use Rattle.rv_table.specs.declared.action.Action.TheVariants.{Loads, Writes}
use Rattle.rv_table.specs.declared.operation.AluKind.{AluKind}
use Rattle.rv_table.specs.declared.operation.Operation.TheVariants.{Alu, AluImmediate, Auipc, Lui}
use Rattle.rv_table.specs.declared.operation.LoadKind.{LoadKind}
use Rattle.rv_table.proofs.Loads.{loaded-same, same_word}
use Rattle.rv_isa.specs.Instruction.{action_in}
use Rattle.pipe_latch.specs.Execution.{executed}
use Rattle.pipe_latch.specs.LatchedActions.{action_of}
use Rattle.pipe_latch.specs.Forwarding.{operand}
use Rattle.pipe_latch.specs.Latches.{DecodedLatch, ExecutedLatch, ResultLatch, op_of_latch}
use Rattle.cyc_machine.specs.InFlight.{operand_held}
use Rattle.eval_mask.specs.Aftermaths.{doing_after, doing_of, doing_with, operand_after, plain_doing, write_by_action}
use Rattle.eval_mask.specs.declared.completing.Write.{Write}
use Rattle.pipe_latch.proofs.Latches.{action_of-latch_of}

pub executed_action : (image : LoadedImage) (d : DecodedLatch) (a b : ℕ) → action_of (executed image d a b) ≡ action_in image (op_of_latch d) d.pc a b
unfolding executed
executed_action image d a b = action_of-latch_of (action_in image (op_of_latch d) d.pc a b)

-- byte r of a word of four bytes of memory
byte_there : (memory : ℕ → ℕ) (from r p a b c d : ℕ) → r < 4 → from + r ≡ p → memory from ≡ a → memory (from + 1) ≡ b → memory (from + 2) ≡ c
    → memory (from + 3) ≡ d → a < 2 ^ 8 → b < 2 ^ 8 → c < 2 ^ 8 → d < 2 ^ 8 → byte_of (from_le_bytes w32 (a ∷ b ∷ c ∷ d ∷ [])) r ≡ memory p
unfolding byte_of
byte_there memory from zero p a b c d l e f g h i s t u v =
    let x : byte_of (from_le_bytes w32 (a ∷ b ∷ c ∷ d ∷ [])) 0 ≡ a = omega arith in
    x ∙ sym f ∙ ap memory (omega arith)
byte_there memory from (suc zero) p a b c d l e f g h i s t u v =
    let x : byte_of (from_le_bytes w32 (a ∷ b ∷ c ∷ d ∷ [])) 1 ≡ b = omega arith in
    x ∙ sym g ∙ ap memory (omega arith)
byte_there memory from (suc (suc zero)) p a b c d l e f g h i s t u v =
    let x : byte_of (from_le_bytes w32 (a ∷ b ∷ c ∷ d ∷ [])) 2 ≡ c = omega arith in
    x ∙ sym h ∙ ap memory (omega arith)
byte_there memory from (suc (suc (suc zero))) p a b c d l e f g h i s t u v =
    let x : byte_of (from_le_bytes w32 (a ∷ b ∷ c ∷ d ∷ [])) 3 ≡ d = omega arith in
    x ∙ sym i ∙ ap memory (omega arith)
byte_there memory from (suc (suc (suc (suc r)))) p a b c d l e f g h i s t u v = absurd (omega arith)

-- a load by the four bytes of its word
pub load_by_bytes : (kind : LoadKind) (x : ℕ) (memory : ℕ → ℕ) (a b c d : ℕ) → memory (x / 4 * 4) ≡ a → memory (x / 4 * 4 + 1) ≡ b
    → memory (x / 4 * 4 + 2) ≡ c → memory (x / 4 * 4 + 3) ≡ d → a < 2 ^ 8 → b < 2 ^ 8 → c < 2 ^ 8 → d < 2 ^ 8
    → loaded kind x (λ p. byte_of (from_le_bytes w32 (a ∷ b ∷ c ∷ d ∷ [])) (p % 4)) ≡ loaded kind x memory
load_by_bytes kind x memory a b c d f g h i s t u v =
    loaded-same kind x (λ p. byte_of (from_le_bytes w32 (a ∷ b ∷ c ∷ d ∷ [])) (p % 4)) memory
    (λ p within.
    let place = same_word kind x p within in
    byte_there memory (x / 4 * 4) (p % 4) p a b c d (omega arith) (omega arith) f g h i s t u v)

-- ---- operands

operand_by : (image : LoadedImage) (m : Action) (memory : ℕ → ℕ) (w : ResultLatch) (rs held : ℕ)
    → operand_after (write_by_action image m memory) w rs held ≡ operand_held image m w memory rs held
unfolding operand
operand_by image (Writes rd value) memory w rs held = grind (arith, nat_tests)
operand_by image (Loads kind rd address) memory w rs held = grind (arith, nat_tests)
operand_by image _ memory w rs held = grind (arith, nat_tests)

pub operand_told : (image : LoadedImage) (m : Action) (memory : ℕ → ℕ) (below : Write) (w : ResultLatch) (rs held : ℕ) → below ≡ write_by_action image m memory
    → operand_after below w rs held ≡ operand_held image m w memory rs held
operand_told image m memory below w rs held e = rw e (operand_by image m memory w rs held)

pub doing_told : (image : LoadedImage) (w : ResultLatch) (m : ExecutedLatch) (d : DecodedLatch) (memory : ℕ → ℕ) (below : Write) (x : ℕ)
    → below ≡ write_by_action image (action_of m) memory
    → doing_after image w d below x ≡ doing_of image w m d memory x
unfolding doing_of
doing_told image w m d memory below x e =
    ap (λ (v : ℕ). doing_with image d x v (operand_after below w d.rs2 d.b)) (operand_told image (action_of m) memory below w d.rs1 d.a e)
    ∙ ap (λ (v : ℕ). doing_with image d x (operand_held image (action_of m) w memory d.rs1 d.a) v) (operand_told image (action_of m) memory below w d.rs2 d.b e)

-- ---- instructions that write a value of their operands and go on

pub lui_doing : (image : LoadedImage) (d : DecodedLatch) (x a held : ℕ) → operation_of d.op ≡ Lui → plain_doing d d.imm ≡ doing_with image d x a held
unfolding doing_with action judged asked asked_by value_by next_address taken_by target_by with_counter counter_by
lui_doing image d x a held e = rw e refl

pub auipc_doing : (image : LoadedImage) (d : DecodedLatch) (x a held : ℕ) → operation_of d.op ≡ Auipc
    → plain_doing d (sum32 (4 * d.pc) d.imm) ≡ doing_with image d x a held
unfolding doing_with action judged asked asked_by value_by next_address taken_by target_by with_counter counter_by
auipc_doing image d x a held e = rw e refl

pub immediate_doing : (image : LoadedImage) (d : DecodedLatch) (x a held : ℕ) (kind : AluKind) → operation_of d.op ≡ AluImmediate kind
    → plain_doing d (alu kind a d.imm) ≡ doing_with image d x a held
unfolding doing_with action judged asked asked_by value_by next_address taken_by target_by with_counter counter_by
immediate_doing image d x a held kind e = rw e refl

pub alu_doing : (image : LoadedImage) (d : DecodedLatch) (x a held : ℕ) (kind : AluKind) → operation_of d.op ≡ Alu kind
    → plain_doing d (alu kind a held) ≡ doing_with image d x a held
unfolding doing_with action judged asked asked_by value_by next_address taken_by target_by with_counter counter_by
alu_doing image d x a held kind e = rw e refl

pub ruleset plain_doings = (lui_doing, auipc_doing, immediate_doing, alu_doing)
