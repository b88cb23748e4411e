-- The sizes that last: lengths and widths that every cycle keeps, whatever strikes have left. The values in registers and latches are not
-- among them, since the number of a cycle, which a read of the cycle counter gives, has no bound.
use Rattle.std.specs.Prelude.{◌≡◌, ◌≤◌, ◌<◌, ◌^◌, All, length}
use Rattle.bit_field.specs.Shapes.{tag_bits}
use Rattle.elf_load.specs.Image.{IsImage}
use Rattle.inst_buf.specs.BufferBits as buffer_bits
use Rattle.pipe_latch.specs.Latches.{DecodedLatch, ExecutedLatch}
use Rattle.predictor.specs.Places as tables_bits
use Rattle.store_buf.specs.Entry.{Entry}
use Rattle.store_buf.specs.Pending.{pending}
use Rattle.store_buf.specs.declared.buffer.TheConstants.{SLOTS}
use Rattle.wb_cache.specs.Contents.{IsSized}
use Rattle.cyc_machine.specs.RegisterBits.{IsCounterFit}
use Rattle.cyc_machine.specs.declared.registers.TheConstants.{REGISTERS}
use Rattle.cyc_machine.specs.State.{State}

-- cache and main memory hold bytes
pub record HoldsBytes (s : State) : Type 0 where
  pub cache : All (λ b. b < 2 ^ 8) s.cache.bytes
  pub memory : All (λ b. b < 2 ^ 8) s.memory

-- the fields of ID/EX but its values
pub record IsDecodedSteady (d : DecodedLatch) : Type 0 where
  pub pc : d.pc < 2 ^ 30
  pub op : d.op < 64
  pub rd : d.rd < 32
  pub rs1 : d.rs1 < 32
  pub rs2 : d.rs2 < 32
  pub imm : d.imm < 2 ^ 32
  pub count : d.count < 32

-- the fields of EX/MEM but its values
pub record IsExecutedSteady (m : ExecutedLatch) : Type 0 where
  pub kind : m.kind < 32
  pub rd : m.rd < 32
  pub cause : m.cause < 16

-- a slot of the store buffer but its value
abbrev pub IsPendingSteady : Entry → Type 0
IsPendingSteady e = (e.mask < 16) × (e.addr < 2 ^ 30)

pub record IsSteady (s : State) : Type 0 where
  pub image : IsImage s.image
  pub memory : length s.memory ≡ length s.image.ram
  pub cache : IsSized s.cache
  pub tags : All (λ t. t < 2 ^ tag_bits s.cache.shape) s.cache.tags
  pub bytes : HoldsBytes s
  pub pc : IsCounterFit s.pc
  pub npc : IsCounterFit s.npc
  pub tables : tables_bits.IsFit s.tables
  pub buffer : buffer_bits.IsFit s.buffer  -- each slot, with a word of 32 bits
  pub d : IsDecodedSteady s.d
  pub m : IsExecutedSteady s.m
  pub w_rd : s.w.rd < 32
  pub registers : length s.registers ≡ REGISTERS
  pub port : s.port.count < 32
  pub slots : length s.stores ≡ SLOTS
  pub masks : All IsPendingSteady s.stores
  pub stores : length (pending s.stores) ≤ SLOTS
  pub issued : s.issued < 2 ^ 32
