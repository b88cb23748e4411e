-- The bits of the machine by place, and the flip of one.
use Rattle.std.specs.Prelude.{ℕ}
use Rattle.bit_field.specs.Shapes.{IsPlaceIn}
use Rattle.bit_field.specs.declared.places.Place.{Place}
use Rattle.bit_field.specs.declared.places.Structure.{Structure}
use Rattle.bit_field.specs.declared.places.Structure.TheVariants.{Pc, Npc, Bht, Btb, Ib, IdEx, ExMem, MemWb, Rf, Sb, Port, CData, CTag, CValid, CDirty, CLru}
use Rattle.inst_buf.specs.BufferBits as ib
use Rattle.predictor.specs.Places as tables
use Rattle.pipe_latch.specs.DecodedBits as idex
use Rattle.pipe_latch.specs.ExecutedBits as exmem
use Rattle.pipe_latch.specs.ResultBits as memwb
use Rattle.store_buf.specs.BufferBits as sb
use Rattle.wb_cache.specs.Bits as cache
use Rattle.cyc_machine.specs.RegisterBits as registers
use Rattle.cyc_machine.specs.PortBits as port
use Rattle.cyc_machine.specs.State.{State}

-- a bit of one of the sixteen structures
abbrev pub InRange : State → Place → Type 0
InRange s place = IsPlaceIn s.cache.shape place

abbrev pub bit_in : Structure → State → ℕ → ℕ
bit_in Pc s k = registers.counter_bit s.pc k
bit_in Npc s k = registers.counter_bit s.npc k
bit_in Bht s k = tables.bit_in Bht s.tables k
bit_in Btb s k = tables.bit_in Btb s.tables k
bit_in Ib s k = ib.bit_of s.buffer k
bit_in IdEx s k = idex.bit_of s.d k
bit_in ExMem s k = exmem.bit_of s.m k
bit_in MemWb s k = memwb.bit_of s.w k
bit_in Rf s k = registers.file_bit s.registers k
bit_in Sb s k = sb.bit_of s.stores k
bit_in Port s k = port.bit_of s.port k
bit_in CData s k = cache.bit_in CData s.cache k
bit_in CTag s k = cache.bit_in CTag s.cache k
bit_in CValid s k = cache.bit_in CValid s.cache k
bit_in CDirty s k = cache.bit_in CDirty s.cache k
bit_in CLru s k = cache.bit_in CLru s.cache k

-- the state that differs in that bit of that structure, and in nothing else
abbrev pub flip_in : Structure → State → ℕ → State
flip_in Pc s k = record s { pc = registers.counter_flipped s.pc k }
flip_in Npc s k = record s { npc = registers.counter_flipped s.npc k }
flip_in Bht s k = record s { tables = tables.flip_in Bht s.tables k }
flip_in Btb s k = record s { tables = tables.flip_in Btb s.tables k }
flip_in Ib s k = record s { buffer = ib.flipped s.buffer k }
flip_in IdEx s k = record s { d = idex.flipped s.d k }
flip_in ExMem s k = record s { m = exmem.flipped s.m k }
flip_in MemWb s k = record s { w = memwb.flipped s.w k }
flip_in Rf s k = record s { registers = registers.file_flipped s.registers k }
flip_in Sb s k = record s { stores = sb.flipped s.stores k }
flip_in Port s k = record s { port = port.flipped s.port k }
flip_in CData s k = record s { cache = cache.flip_in CData s.cache k }
flip_in CTag s k = record s { cache = cache.flip_in CTag s.cache k }
flip_in CValid s k = record s { cache = cache.flip_in CValid s.cache k }
flip_in CDirty s k = record s { cache = cache.flip_in CDirty s.cache k }
flip_in CLru s k = record s { cache = cache.flip_in CLru s.cache k }

abbrev pub bit_at_place : State → Place → ℕ
bit_at_place s place = bit_in place.structure s place.bit

abbrev pub flip_at_place : State → Place → State
flip_at_place s place = flip_in place.structure s place.bit
