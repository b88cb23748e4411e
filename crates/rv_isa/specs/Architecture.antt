-- The architectural state as the program holds it, in lists, and the state of the instruction set's run that it stands for.
use Rattle.std.specs.Prelude.{◌≡◌, ℕ, ◌+◌, ◌-◌, ◌^◌, ◌<◌, ◌&&◌, nat_le, nat_lt, List, [], length, slice_index, None, if◌then◌else◌}
use Rattle.elf_load.specs.Image.{LoadedImage, IsImage, ram_byte}
use Rattle.rv_isa.specs.Instruction.{State}
use Rattle.rv_table.specs.Accesses.{byte_of}

pub record ArchState : Type 0 where
  pub image : LoadedImage
  pub registers : List ℕ  -- by register, 32 of them
  pub memory : List ℕ  -- the bytes of RAM, from its base on
  pub pc : ℕ  -- word address of the next instruction
  pub count : ℕ  -- instructions so far, modulo 2^32
  pub clocks : List ℕ  -- clock values that are left

-- byte p of a list in which the low bytes of a value stand from index `at` on
abbrev pub byte_stored : ℕ → ℕ → ℕ → List ℕ → ℕ → ℕ
byte_stored at size value bytes p =
    if nat_le at p && nat_lt p (at + size) then byte_of value (p - at) else slice_index bytes p

-- the same with registers and memory as functions; nothing is logged, and no end has come
abbrev pub state_of : ArchState → State
state_of arch =
    record {
      registers = slice_index arch.registers;
      memory = ram_byte arch.image arch.memory;
      pc = arch.pc;
      count = arch.count;
      clocks = arch.clocks;
      log = record { output = []; actions = [] };
      stop = None;
    }

-- what holds of each architectural state
pub record IsArchState (arch : ArchState) : Type 0 where
  pub image : IsImage arch.image
  pub register_count : length arch.registers ≡ 32
  pub register_zero : slice_index arch.registers 0 ≡ 0
  pub memory_size : length arch.memory ≡ length arch.image.ram
  pub memory_bytes : (k : ℕ) → slice_index arch.memory k < 256
  pub pc : arch.pc < 2 ^ 30
