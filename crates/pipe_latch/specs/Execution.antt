-- What EX makes of the instruction in ID/EX, from its operands a and b.
use Rattle.std.specs.Prelude.{ℕ, ◌&&◌, Bool, true, false, not, Option, Some, None, if◌then◌else◌}
use Rattle.elf_load.specs.Image.{LoadedImage, executable, word_in_ram}
use Rattle.rv_table.specs.Actions.{action, misses_target, next_address, taken}
use Rattle.rv_table.specs.Operations.{operation_of}
use Rattle.rv_table.specs.declared.operation.Operation.{Operation}
use Rattle.rv_table.specs.declared.operation.Operation.TheVariants.{Jal, Jalr, Branch}
use Rattle.pipe_latch.specs.Latches.{DecodedLatch, ExecutedLatch, op_of_latch}
use Rattle.pipe_latch.specs.LatchedActions.{latch_of}

-- the next EX/MEM
unfoldable pub executed : LoadedImage → DecodedLatch → ℕ → ℕ → ExecutedLatch
executed image d a b = latch_of (action (word_in_ram image) (executable image) (op_of_latch d) d.pc a b)

-- the word address that follows
unfoldable pub next_of : DecodedLatch → ℕ → ℕ → ℕ
next_of d a b = next_address (op_of_latch d) d.pc a b

abbrev pub is_branch_or_jump : Operation → Bool
is_branch_or_jump Jal = true
is_branch_or_jump Jalr = true
is_branch_or_jump (Branch kind) = true
is_branch_or_jump _ = false

-- what the predictor learns of a branch or jump that doesn't trap: whether it was taken, and the word address it went to
unfoldable pub learned : DecodedLatch → ℕ → ℕ → Option (Bool × ℕ)
learned d a b =
    if is_branch_or_jump (operation_of d.op) && not (misses_target (operation_of d.op) (op_of_latch d) d.pc a b)
    then Some (taken (op_of_latch d) a b, next_of d a b)
    else None
