-- What completed instructions leave, told by what they change: the writes and stores that they make, one over the other.
use Rattle.std.specs.Prelude.{ℕ, Bool, ◌/◌, ◌==◌, ◌&&◌, ◌≡◌, is_none, List, [], Option, Some, None, if◌then◌else◌}
use Rattle.elf_load.specs.Image.{LoadedImage, word_in_ram}
use Rattle.rv_table.specs.Accesses.{stored}
use Rattle.rv_table.specs.Actions.{next_address, next_word, with_counter}
use Rattle.rv_table.specs.Effects.{byte_put, written_register}
use Rattle.rv_table.specs.declared.action.Action.{Action}
use Rattle.rv_table.specs.declared.action.Action.TheVariants.{Stores, Writes}
use Rattle.rv_isa.specs.Instruction.{State, action_in, end_of, given, put_reg, with_byte}
use Rattle.pipe_latch.specs.Latches.{DecodedLatch, ExecutedLatch, ResultLatch, op_of_latch}
use Rattle.pipe_latch.specs.LatchedActions.{action_of}
use Rattle.cyc_machine.specs.InFlight.{operand_held}
use Rattle.eval_mask.specs.declared.completing.Write.{Write}
use Rattle.eval_mask.specs.declared.completing.Store.{Store}
use Rattle.eval_mask.specs.declared.completing.Change.{Change}
use Rattle.eval_mask.specs.declared.completing.Doing.{Doing}
use Rattle.eval_mask.specs.declared.completing.Aftermath.{Aftermath}

-- registers with a write, and memory with a store
abbrev pub written : Write → (ℕ → ℕ) → ℕ → ℕ
written write registers = put_reg write.rd write.value registers

abbrev pub stored_over : Option Store → (ℕ → ℕ) → ℕ → ℕ
stored_over None memory = memory
stored_over (Some store) memory = stored store.kind store.address store.value memory

-- the store of an action, none outside RAM
abbrev pub store_by : LoadedImage → Action → Option Store
store_by image (Stores kind x y) = if word_in_ram image (x / 4) then Some (record { kind = kind; address = x; value = y }) else None
store_by image _ = None

-- what an action writes, over memory before it
abbrev pub write_by_action : LoadedImage → Action → (ℕ → ℕ) → Write
write_by_action image done memory = record { rd = written_register done; value = given image done memory }

-- the write that MEM/WB holds
abbrev pub write_held : ResultLatch → Write
write_held w = record { rd = w.rd; value = w.value }

-- what an action changes, over this memory
unfoldable pub change_of : LoadedImage → Action → (ℕ → ℕ) → Change
change_of image done memory =
    record {
      write = write_by_action image done memory;
      store = store_by image done;
      put = byte_put done;
      end = end_of done;
    }

abbrev pub no_change : Change
no_change = record { write = record { rd = 0; value = 0 }; store = None; put = None; end = None }

-- ID/EX is completed: it is occupied, at the address that comes next, and EX/MEM doesn't end the run
abbrev pub is_completed : ExecutedLatch → DecodedLatch → ℕ → Bool
is_completed m d npc = d.valid && (is_none (end_of (action_of m)) && d.pc == npc)

-- what the instruction in ID/EX does with these operands, the second before a counter takes its place; x instructions come before it
unfoldable pub doing_with : LoadedImage → DecodedLatch → ℕ → ℕ → ℕ → Doing
doing_with image d x a held =
    let b = with_counter (op_of_latch d) 0 x held in
    record { action = action_in image (op_of_latch d) d.pc a b; next = next_address (op_of_latch d) d.pc a b }

-- an operand that ID/EX holds, once EX/MEM has written this and MEM/WB what it holds
abbrev pub operand_after : Write → ResultLatch → ℕ → ℕ → ℕ
operand_after below w rs held =
    if rs == 0 then held else (if rs == below.rd then below.value else (if rs == w.rd then w.value else held))

-- a value is written into the register that ID/EX names, and the next instruction follows
abbrev pub plain_doing : DecodedLatch → ℕ → Doing
plain_doing d value = record { action = Writes d.rd value; next = next_word d.pc }

-- what the instruction in ID/EX does, once EX/MEM has written this and MEM/WB what it holds
abbrev pub doing_after : LoadedImage → ResultLatch → DecodedLatch → Write → ℕ → Doing
doing_after image w d below x = doing_with image d x (operand_after below w d.rs1 d.a) (operand_after below w d.rs2 d.b)

-- what the instruction in ID/EX does with what it holds, over memory before EX/MEM
unfoldable pub doing_of : LoadedImage → ResultLatch → ExecutedLatch → DecodedLatch → (ℕ → ℕ) → ℕ → Doing
doing_of image w m d memory x =
    doing_with image d x (operand_held image (action_of m) w memory d.rs1 d.a) (operand_held image (action_of m) w memory d.rs2 d.b)

-- what is left of MEM/WB's write, what EX/MEM changes, and what ID/EX does
unfoldable pub left_by : LoadedImage → Write → Change → Doing → (ℕ → ℕ) → Aftermath
left_by image first below doing memory =
    record {
      first = first;
      below = below;
      above = change_of image doing.action (stored_over below.store memory);
      pc = doing.next;
      end = end_of doing.action;
    }

-- what completing MEM/WB, EX/MEM and a reached ID/EX leaves, over this memory; npc is the address that comes next and x the
-- number of instructions before it
unfoldable pub aftermath_of : LoadedImage → ResultLatch → ExecutedLatch → DecodedLatch → (ℕ → ℕ) → ℕ → ℕ → Aftermath
aftermath_of image w m d memory npc x =
    let first = write_held w in
    let below = change_of image (action_of m) memory in
    if is_completed m d npc
    then left_by image first below (doing_of image w m d memory x) memory
    else record { first = first; below = below; above = no_change; pc = npc; end = end_of (action_of m) }

abbrev pub registers_after : Aftermath → (ℕ → ℕ) → ℕ → ℕ
registers_after left registers = written left.above.write (written left.below.write (written left.first registers))

abbrev pub memory_after : Aftermath → (ℕ → ℕ) → ℕ → ℕ
memory_after left memory = stored_over left.above.store (stored_over left.below.store memory)

abbrev pub output_after : Aftermath → List ℕ
output_after left = with_byte (with_byte [] left.below.put) left.above.put

-- the state that is left of these registers and this memory; count and clock values are no part of it
abbrev pub state_after : Aftermath → (ℕ → ℕ) → (ℕ → ℕ) → State
state_after left registers memory =
    record {
      registers = registers_after left registers;
      memory = memory_after left memory;
      pc = left.pc;
      count = 0;
      clocks = [];
      log = record { output = output_after left; actions = [] };
      stop = left.end;
    }

-- a state is that, but for count, clock values and the actions in its log
pub record Tells (left : Aftermath) (registers memory : ℕ → ℕ) (after : State) : Type 0 where
  pub written : after.registers ≡ registers_after left registers
  pub stored : after.memory ≡ memory_after left memory
  pub put : after.log.output ≡ output_after left
  pub goes : after.pc ≡ left.pc
  pub ends : after.stop ≡ left.end
