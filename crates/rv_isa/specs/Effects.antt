-- What one instruction does, told from outside, and what committing it changes.
use Rattle.std.specs.Prelude.{◌≡◌, ℕ, ◌+◌, ◌-◌, ◌*◌, ◌/◌, ◌%◌, ◌^◌, ◌<◌, ◌==◌, ◌&&◌, ◌⊎◌, nat_le, nat_lt, IsTrue, Option, Some, None, if◌then◌else◌}
use Rattle.std.specs.Option.{ForSome}
use Rattle.elf_load.specs.Image.{LoadedImage, in_ram}
use Rattle.rv_isa.specs.Instruction.{State, reg, put_reg, given, end_of, with_byte, first_clock, later_clocks, next_count}
use Rattle.rv_isa.specs.Instruction.{action_in, completed, op_at}
use Rattle.rv_isa.specs.declared.effect.Effect.{Effect}
use Rattle.rv_isa.specs.declared.effect.Retired.{Retired}
use Rattle.rv_table.specs.Accesses.{load_size, store_size, byte_of}
use Rattle.rv_table.specs.Actions.{next_address, with_counter, is_clocked}
use Rattle.rv_table.specs.Effects.{byte_put, written_register}
use Rattle.rv_table.specs.declared.op.Op.{Op}
use Rattle.rv_table.specs.declared.action.Action.{Action}
use Rattle.rv_table.specs.declared.action.Action.TheVariants.{Loads, Stores}

-- the register that an action writes, but for register 0, and its value
abbrev pub write_of : LoadedImage → Action → (ℕ → ℕ) → Option (ℕ × ℕ)
write_of image done memory =
    if written_register done == 0 then None else Some (written_register done, given image done memory)

-- byte address and length in bytes
abbrev pub load_of : Action → Option (ℕ × ℕ)
load_of (Loads kind rd address) = Some (address, load_size kind)
load_of _ = None

-- byte address, length in bytes, and the whole value whose low bytes are stored
abbrev pub store_of : Action → Option (ℕ × ℕ × ℕ)
store_of (Stores kind address value) = Some (address, store_size kind, value)
store_of _ = None

-- what an operation does at a state's address with the operands a and b (a counter read's b is the counter)
unfoldable pub effect_by : LoadedImage → Op → ℕ → ℕ → State → Effect
effect_by image op a b before =
    let done = action_in image op before.pc a b in
    record {
      next = 4 * next_address op before.pc a b;
      write = write_of image done before.memory;
      load = load_of done;
      store = store_of done;
      put = byte_put done;
      end = end_of done;
      clocked = is_clocked op;
    }

-- operand b, with the counter in its place where it is read
abbrev pub operand_b : Op → State → ℕ
operand_b op before = with_counter op (first_clock before.clocks) before.count (reg before.registers op.rs2)

unfoldable pub effect_of : LoadedImage → Op → State → Effect
effect_of image op before = effect_by image op (reg before.registers op.rs1) (operand_b op before) before

-- what is recorded of the instruction at a state: its byte address, its operation, the values of rs1 and rs2, and its effect
unfoldable pub retired_at : LoadedImage → State → Retired
retired_at image before =
    let op = op_at image before.pc in
    record {
      pc = 4 * before.pc;
      op = op;
      a = reg before.registers op.rs1;
      b = reg before.registers op.rs2;
      effect = effect_of image op before;
    }

abbrev pub with_write : Option (ℕ × ℕ) → (ℕ → ℕ) → ℕ → ℕ
with_write None registers = registers
with_write (Some write) registers = put_reg write.0 write.1 registers

-- the low bytes of a value, from a byte address on
abbrev pub with_store : Option (ℕ × ℕ × ℕ) → (ℕ → ℕ) → ℕ → ℕ
with_store None memory = memory
with_store (Some store) memory = λ p.
    if nat_le store.0 p && nat_lt p (store.0 + store.1) then byte_of store.2 (p - store.0) else memory p

-- the state after an effect is committed; output and end are the caller's
unfoldable pub committed : Effect → State → State
committed effect before =
    record before {
      registers = with_write effect.write before.registers;
      memory = with_store effect.store before.memory;
      pc = effect.next / 4;
      count = next_count before.count;
      clocks = if effect.clocked then later_clocks before.clocks else before.clocks;
    }

-- an operation performed on a state: the instruction step, with the operation given
abbrev pub operated : LoadedImage → Op → State → State
operated image op before =
    completed image op before.pc (reg before.registers op.rs1) (reg before.registers op.rs2) before

-- The effect, committed, is the operation's step. It tells the step's byte and its end.
pub record IsStep (image : LoadedImage) (op : Op) (effect : Effect) (before : State) : Type 0 where
  pub commits : record (committed effect before) { log = (operated image op before).log; stop = effect.end } ≡ operated image op before
  pub puts : (operated image op before).log.output ≡ with_byte before.log.output effect.put

-- 1, 2 or 4 bytes that are all in RAM
pub record IsInRam (image : LoadedImage) (address size : ℕ) : Type 0 where
  pub whole : (size ≡ 1) ⊎ (size ≡ 2) ⊎ (size ≡ 4)
  pub bytes : (k : ℕ) → k < size → IsTrue (in_ram image (address + k))

-- an effect that can be committed
pub record CanCommit (image : LoadedImage) (effect : Effect) : Type 0 where
  pub next : effect.next % 4 ≡ 0
  pub write : ForSome effect.write (λ write. (0 < write.0) × (write.0 < 32))
  pub store : ForSome effect.store (λ store. IsInRam image store.0 store.1)

-- 1, 2 or 4 bytes at an address that is a multiple of their number
pub record IsAccess (address length : ℕ) : Type 0 where
  pub whole : (length ≡ 1) ⊎ (length ≡ 2) ⊎ (length ≡ 4)
  pub aligned : address % length ≡ 0
  pub below : address < 2 ^ 32

-- what holds of each instruction of a trace
pub record IsRetired (entry : Retired) : Type 0 where
  pub rs1 : entry.op.rs1 < 32
  pub rs2 : entry.op.rs2 < 32
  pub write : ForSome entry.effect.write (λ write. (0 < write.0) × (write.0 < 32))
  pub load : ForSome entry.effect.load (λ load. IsAccess load.0 load.1)
  pub store : ForSome entry.effect.store (λ store. IsAccess store.0 store.1)
