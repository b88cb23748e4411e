-- Which fields of ID/EX an operation doesn't read.
use Rattle.std.specs.Prelude.{◌≡◌, ℕ, ◌==◌, ◌||◌, ◌&&◌, Bool, true, false, not}
use Rattle.elf_load.specs.Image.{LoadedImage}
use Rattle.rv_table.specs.Actions.{is_clocked}
use Rattle.rv_table.specs.declared.action.Action.{Action}
use Rattle.rv_table.specs.declared.action.Action.TheVariants.{Stores}
use Rattle.rv_table.specs.Operations.{operation_of}
use Rattle.rv_table.specs.declared.operation.Operation.{Operation}
use Rattle.rv_table.specs.declared.operation.Operation.TheVariants.{Lui, Auipc, Jal, Jalr, Branch, Load, Store, AluImmediate, Alu, Ecall, ReadCounter}
use Rattle.pipe_latch.specs.Latches.{DecodedLatch, ResultLatch, op_of_latch}
use Rattle.eval_mask.specs.Aftermaths.{doing_after}
use Rattle.eval_mask.specs.declared.completing.Write.{Write}

-- the first operand
abbrev pub reads_a : Operation → Bool
reads_a Jalr = true
reads_a (Branch kind) = true
reads_a (Load kind) = true
reads_a (Store kind) = true
reads_a (AluImmediate kind) = true
reads_a (Alu kind) = true
reads_a Ecall = true
reads_a _ = false

-- the second
abbrev pub reads_b : Operation → Bool
reads_b (Branch kind) = true
reads_b (Store kind) = true
reads_b (Alu kind) = true
reads_b Ecall = true
reads_b _ = false

abbrev pub reads_immediate : Operation → Bool
reads_immediate Lui = true
reads_immediate Auipc = true
reads_immediate Jal = true
reads_immediate Jalr = true
reads_immediate (Branch kind) = true
reads_immediate (Load kind) = true
reads_immediate (Store kind) = true
reads_immediate (AluImmediate kind) = true
reads_immediate _ = false

-- the register that it names is one that it writes
abbrev pub writes_register : Operation → Bool
writes_register Lui = true
writes_register Auipc = true
writes_register Jal = true
writes_register Jalr = true
writes_register (Load kind) = true
writes_register (AluImmediate kind) = true
writes_register (Alu kind) = true
writes_register (ReadCounter counter) = true
writes_register _ = false

-- EX/MEM or MEM/WB hands the operand in
abbrev pub is_forwarded : Write → ResultLatch → ℕ → Bool
is_forwarded below w rs = not (rs == 0) && (rs == below.rd || rs == w.rd)

abbrev pub is_a_unread : ResultLatch → DecodedLatch → Write → Bool
is_a_unread w d below = not (reads_a (operation_of d.op)) || is_forwarded below w d.rs1

abbrev pub is_b_unread : ResultLatch → DecodedLatch → Write → Bool
is_b_unread w d below = not (reads_b (operation_of d.op)) || is_forwarded below w d.rs2

abbrev pub is_immediate_unread : DecodedLatch → Bool
is_immediate_unread d = not (reads_immediate (operation_of d.op))

-- with another latch in its place ID/EX does the same, whatever EX/MEM writes
pub record DoesTheSame (w : ResultLatch) (below : Write) (d other : DecodedLatch) : Type 0 where
  pub doing : (image : LoadedImage) (x : ℕ) → doing_after image w other below x ≡ doing_after image w d below x
  pub clock : is_clocked (op_of_latch other) ≡ is_clocked (op_of_latch d)

-- a store, the only action that shows the value to store
abbrev pub is_store : Action → Bool
is_store (Stores kind address value) = true
is_store _ = false
