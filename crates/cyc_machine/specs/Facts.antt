-- What holds of every state that a machine can be in, whatever strikes have left in it.
use Rattle.std.specs.Prelude.{◌≡◌, ◌<◌, ◌^◌, All, length}
use Rattle.elf_load.specs.Image.{IsImage}
use Rattle.inst_buf.specs.BufferBits as ib
use Rattle.pipe_latch.specs.DecodedBits as idex
use Rattle.pipe_latch.specs.ExecutedBits as exmem
use Rattle.pipe_latch.specs.ResultBits as memwb
use Rattle.predictor.specs.Places as tables
use Rattle.store_buf.specs.BufferBits as sb
use Rattle.wb_cache.specs.Contents.{IsContents}
use Rattle.cyc_machine.specs.PortBits as port
use Rattle.cyc_machine.specs.RegisterBits as registers
use Rattle.cyc_machine.specs.State.{State}

-- The structures have their sizes and widths, main memory is as long as the image's RAM and holds bytes, and the count of
-- instructions is below 2^32.
pub record IsMachine (s : State) : Type 0 where
  pub image : IsImage s.image
  pub memory : length s.memory ≡ length s.image.ram
  pub memory_bytes : All (λ b. b < 2 ^ 8) s.memory
  pub issued : s.issued < 2 ^ 32
  pub cache : IsContents s.cache
  pub pc : registers.IsCounterFit s.pc
  pub npc : registers.IsCounterFit s.npc
  pub tables : tables.IsFit s.tables
  pub buffer : ib.IsFit s.buffer
  pub d : idex.IsFit s.d
  pub m : exmem.IsFit s.m
  pub w : memwb.IsFit s.w
  pub registers : registers.IsFileFit s.registers
  pub stores : sb.IsFit s.stores
  pub port : port.IsFit s.port
