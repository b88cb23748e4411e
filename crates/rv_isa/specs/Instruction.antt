-- One instruction: what it does to registers, memory, address, instruction count and clock values.
use Rattle.std.specs.Prelude.{ℕ, ◌+◌, ◌/◌, ◌%◌, ◌^◌, ◌==◌, List, [], ◌∷◌, ◌++◌, Option, Some, None, if◌then◌else◌}
use Rattle.elf_load.specs.Image.{LoadedImage, executable, fetch, word_in_ram}
use Rattle.avf_base.specs.declared.end.End.{End}
use Rattle.avf_base.specs.declared.end.End.TheVariants.{Exit, Trap}
use Rattle.rv_table.specs.Accesses.{loaded, stored}
use Rattle.rv_table.specs.Actions.{action, next_address, with_counter, is_clocked}
use Rattle.rv_table.specs.Effects.{byte_put, written_register}
use Rattle.rv_table.specs.Words.{decode, fetch_fault}
use Rattle.rv_table.specs.declared.op.Op.{Op}
use Rattle.rv_table.specs.declared.action.Action.{Action}
use Rattle.rv_table.specs.declared.action.Action.TheVariants.{Nothing, Writes, Loads, Stores, Exits, Traps}

-- what a run has done so far: the bytes that it put, and the actions that it completed, in order
pub record Log : Type 0 where
  pub output : List ℕ
  pub actions : List Action

-- A state of the instruction set's run over an image, with what it has done, and its end if that has come.
pub record State : Type 0 where
  pub registers : ℕ → ℕ  -- by register, 1 to 31
  pub memory : ℕ → ℕ  -- by byte address
  pub pc : ℕ  -- word address of the next instruction
  pub count : ℕ  -- instructions so far, modulo 2^32
  pub clocks : List ℕ  -- clock values that are left
  pub log : Log
  pub stop : Option End

-- register r, where register 0 reads 0
abbrev pub reg : (ℕ → ℕ) → ℕ → ℕ
reg registers r = if r == 0 then 0 else registers r

-- the registers with rd written; a write to register 0 is none
abbrev pub put_reg : ℕ → ℕ → (ℕ → ℕ) → ℕ → ℕ
put_reg rd value registers = if rd == 0 then registers else (λ r. if r == rd then value else registers r)

-- The value that an action writes into its register. A load outside RAM gives 0 and a store there is dropped: an instruction traps before
-- that, but a struck latch can hold such an access.
abbrev pub given : LoadedImage → Action → (ℕ → ℕ) → ℕ
given image (Writes rd value) memory = value
given image (Loads kind rd address) memory = if word_in_ram image (address / 4) then loaded kind address memory else 0
given image _ memory = 0

abbrev pub memory_after : LoadedImage → Action → (ℕ → ℕ) → ℕ → ℕ
memory_after image (Stores kind address value) memory =
    if word_in_ram image (address / 4) then stored kind address value memory else memory
memory_after image _ memory = memory

-- how it ends the run
abbrev pub end_of : Action → Option End
end_of (Exits value) = Some (Exit (value % 2 ^ 8))
end_of (Traps cause) = Some (Trap cause)
end_of _ = None

abbrev pub with_byte : List ℕ → Option ℕ → List ℕ
with_byte output (Some byte) = output ++ byte ∷ []
with_byte output None = output

abbrev pub with_action : List Action → Action → List Action
with_action actions Nothing = actions
with_action actions done = actions ++ done ∷ []

abbrev pub logged : Log → Action → Log
logged log done = record { output = with_byte log.output (byte_put done); actions = with_action log.actions done }

-- the state after an action; its address, count and clock values stay
abbrev pub performed : LoadedImage → Action → State → State
performed image done before =
    record {
      registers = put_reg (written_register done) (given image done before.memory) before.registers;
      memory = memory_after image done before.memory;
      pc = before.pc;
      count = before.count;
      clocks = before.clocks;
      log = logged before.log done;
      stop = end_of done;
    }

-- the first clock value, 0 where none is left, and the others
abbrev pub first_clock : List ℕ → ℕ
first_clock [] = 0
first_clock (clock ∷ clocks) = clock

abbrev pub later_clocks : List ℕ → List ℕ
later_clocks [] = []
later_clocks (clock ∷ clocks) = clocks

-- the count after one more instruction; it is a 32-bit counter and wraps
abbrev pub next_count : ℕ → ℕ
next_count count = (count + 1) % 2 ^ 32

-- what an operation of an image's program asks for and is allowed
abbrev pub action_in : LoadedImage → Op → ℕ → ℕ → ℕ → Action
action_in image op pc a b = action (word_in_ram image) (executable image) op pc a b

-- one instruction at word address pc, from its operands
unfoldable pub completed : LoadedImage → Op → ℕ → ℕ → ℕ → State → State
completed image op pc a b before =
    let c = with_counter op (first_clock before.clocks) before.count b in
    record (performed image (action_in image op pc a c) before) {
      pc = next_address op pc a c;
      count = next_count before.count;
      clocks = if is_clocked op then later_clocks before.clocks else before.clocks;
    }

-- the operation that is fetched; a word that isn't executable gives the fetch fault
abbrev pub op_of_word : Option ℕ → Op
op_of_word (Some word) = decode word
op_of_word None = fetch_fault

abbrev pub op_at : LoadedImage → ℕ → Op
op_at image pc = op_of_word (fetch image pc)

-- the instruction at the state's address; fetches read the image as loaded
unfoldable pub instruction : LoadedImage → State → State
instruction image before =
    let op = op_at image before.pc in
    completed image op before.pc (reg before.registers op.rs1) (reg before.registers op.rs2) before
