-- The machine's state: the sixteen structures that can be struck, main memory, the image, and the numbers that go with a
-- run.
use Rattle.std.specs.Prelude.{ℕ, ◌/◌, Bool, false, List, replicate}
use Rattle.elf_load.specs.Image.{LoadedImage}
use Rattle.bit_field.specs.declared.shapes.Shape.{Shape}
use Rattle.pipe_latch.specs.Latches.{DecodedLatch, ExecutedLatch, ResultLatch, no_decoded, no_executed, no_result}
use Rattle.inst_buf.specs.Entry.{Entry as Fetched, no_entry as no_fetched}
use Rattle.inst_buf.specs.declared.buffer.TheConstants.{SLOTS as BUFFER_SLOTS}
use Rattle.predictor.specs.Tables.{Tables, fresh_tables}
use Rattle.store_buf.specs.Entry.{Entry as Pending, no_entry as no_pending}
use Rattle.store_buf.specs.declared.buffer.TheConstants.{SLOTS as STORE_SLOTS}
use Rattle.wb_cache.specs.Contents.{Contents, empty as empty_cache}
use Rattle.cyc_machine.specs.PortState.{PortState}
use Rattle.cyc_machine.specs.declared.registers.TheConstants.{REGISTERS}

pub record State : Type 0 where
  pub image : LoadedImage
  pub pc : ℕ  -- word address that is fetched next
  pub npc : ℕ  -- word address of the instruction after the last one that left EX
  pub tables : Tables  -- the predictor's
  pub buffer : List Fetched  -- the slots of the instruction buffer
  pub d : DecodedLatch  -- the latch ID/EX
  pub m : ExecutedLatch  -- the latch EX/MEM
  pub w : ResultLatch  -- the latch MEM/WB
  pub registers : List ℕ  -- registers 1 to 31
  pub stores : List Pending  -- the slots of the store buffer
  pub port : PortState  -- the latch of the cache's port
  pub cache : Contents  -- the lines, and which way of a set is replaced next
  pub memory : List ℕ  -- main memory, from the image's base on
  pub cycle : ℕ  -- the number of this cycle
  pub issued : ℕ  -- instructions that left EX, modulo 2^32
  pub ended : Bool  -- whether the run has ended

-- before the first cycle
unfoldable pub reset : LoadedImage → Shape → State
reset image shape =
    record {
      image = image;
      pc = image.entry / 4;
      npc = image.entry / 4;
      tables = fresh_tables;
      buffer = replicate BUFFER_SLOTS no_fetched;
      d = no_decoded;
      m = no_executed;
      w = no_result;
      registers = replicate REGISTERS 0;
      stores = replicate STORE_SLOTS no_pending;
      port = record { count = 0; owner = false };
      cache = empty_cache shape;
      memory = image.ram;
      cycle = 0;
      issued = 0;
      ended = false;
    }
