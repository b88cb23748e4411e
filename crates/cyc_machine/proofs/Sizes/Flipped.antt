-- A strike keeps what holds of every machine.
use Rattle.std.proofs.Common.{◌≡◌, ℕ, ◌<◌, ◌^◌, length}
use Rattle.std.specs.Prelude.{All}
use Rattle.bit_field.specs.Shapes.{bits_in}
use Rattle.bit_field.specs.declared.places.Place.{Place}
use Rattle.bit_field.specs.declared.places.Structure.{Structure}
use Rattle.bit_field.specs.declared.places.Structure.TheVariants.{Pc, Npc, Bht, Btb, Ib, IdEx, ExMem, MemWb, Rf, Sb, Port, CData, CTag, CValid, CDirty, CLru}
use Rattle.inst_buf.proofs.BufferLaws as ib
use Rattle.predictor.proofs.HistoryLaws as history
use Rattle.predictor.proofs.TargetLaws as targets
use Rattle.pipe_latch.proofs.DecodedLaws as idex
use Rattle.pipe_latch.proofs.ExecutedLaws as exmem
use Rattle.pipe_latch.proofs.ResultLaws as memwb
use Rattle.store_buf.proofs.BufferLaws as sb
use Rattle.cyc_machine.proofs.RegisterLaws as registers
use Rattle.cyc_machine.proofs.PortLaws as port
use Rattle.wb_cache.proofs.Strikes.{cache_stays}
use Rattle.inst_buf.specs.BufferBits as ib_bits
use Rattle.pipe_latch.specs.DecodedBits as idex_bits
use Rattle.pipe_latch.specs.ExecutedBits as exmem_bits
use Rattle.pipe_latch.specs.ResultBits as memwb_bits
use Rattle.predictor.specs.Places as tables_bits
use Rattle.store_buf.specs.BufferBits as sb_bits
use Rattle.cyc_machine.specs.PortBits as port_bits
use Rattle.cyc_machine.specs.RegisterBits as counters
use Rattle.elf_load.specs.Image.{IsImage}
use Rattle.wb_cache.specs.Contents.{IsContents}
use Rattle.cyc_machine.specs.Facts.{IsMachine}
use Rattle.cyc_machine.specs.State.{State}
use Rattle.cyc_machine.specs.Strikes.{InRange, flip_in}

-- the parts of what holds of every machine
pub made : (s : State) → IsImage s.image → length s.memory ≡ length s.image.ram → All (λ b. b < 2 ^ 8) s.memory → s.issued < 2 ^ 32 → IsContents s.cache
    → counters.IsCounterFit s.pc → counters.IsCounterFit s.npc → tables_bits.IsFit s.tables → ib_bits.IsFit s.buffer → idex_bits.IsFit s.d
    → exmem_bits.IsFit s.m
    → memwb_bits.IsFit s.w → counters.IsFileFit s.registers → sb_bits.IsFit s.stores → port_bits.IsFit s.port → IsMachine s
made s image memory memory_bytes issued cache pc npc tables buffer d m w registers stores port =
    record {
      image = image;
      memory = memory;
      memory_bytes = memory_bytes;
      issued = issued;
      cache = cache;
      pc = pc;
      npc = npc;
      tables = tables;
      buffer = buffer;
      d = d;
      m = m;
      w = w;
      registers = registers;
      stores = stores;
      port = port;
    }

pub flip-keeps : (a : Structure) (s : State) (k : ℕ) → IsMachine s → k < bits_in a s.cache.shape → IsMachine (flip_in a s k)
flip-keeps Pc s k f l =
    let here = registers.counter_laws.fit_stays s.pc k f.pc l in
    made (flip_in Pc s k) f.image f.memory f.memory_bytes f.issued f.cache here f.npc f.tables f.buffer f.d f.m f.w f.registers f.stores f.port
flip-keeps Npc s k f l =
    let here = registers.counter_laws.fit_stays s.npc k f.npc l in
    made (flip_in Npc s k) f.image f.memory f.memory_bytes f.issued f.cache f.pc here f.tables f.buffer f.d f.m f.w f.registers f.stores f.port
flip-keeps Bht s k f l =
    let here : tables_bits.IsFit (flip_in Bht s k).tables =
    record { history = history.laws.fit_stays s.tables.history k f.tables.history l; targets = f.tables.targets } in
    made (flip_in Bht s k) f.image f.memory f.memory_bytes f.issued f.cache f.pc f.npc here f.buffer f.d f.m f.w f.registers f.stores f.port
flip-keeps Btb s k f l =
    let here : tables_bits.IsFit (flip_in Btb s k).tables =
    record { history = f.tables.history; targets = targets.laws.fit_stays s.tables.targets k f.tables.targets l } in
    made (flip_in Btb s k) f.image f.memory f.memory_bytes f.issued f.cache f.pc f.npc here f.buffer f.d f.m f.w f.registers f.stores f.port
flip-keeps Ib s k f l =
    let here = ib.laws.fit_stays s.buffer k f.buffer l in
    made (flip_in Ib s k) f.image f.memory f.memory_bytes f.issued f.cache f.pc f.npc f.tables here f.d f.m f.w f.registers f.stores f.port
flip-keeps IdEx s k f l =
    let here = idex.laws.fit_stays s.d k f.d l in
    made (flip_in IdEx s k) f.image f.memory f.memory_bytes f.issued f.cache f.pc f.npc f.tables f.buffer here f.m f.w f.registers f.stores f.port
flip-keeps ExMem s k f l =
    let here = exmem.laws.fit_stays s.m k f.m l in
    made (flip_in ExMem s k) f.image f.memory f.memory_bytes f.issued f.cache f.pc f.npc f.tables f.buffer f.d here f.w f.registers f.stores f.port
flip-keeps MemWb s k f l =
    let here = memwb.laws.fit_stays s.w k f.w l in
    made (flip_in MemWb s k) f.image f.memory f.memory_bytes f.issued f.cache f.pc f.npc f.tables f.buffer f.d f.m here f.registers f.stores f.port
flip-keeps Rf s k f l =
    let here = registers.file_laws.fit_stays s.registers k f.registers l in
    made (flip_in Rf s k) f.image f.memory f.memory_bytes f.issued f.cache f.pc f.npc f.tables f.buffer f.d f.m f.w here f.stores f.port
flip-keeps Sb s k f l =
    let here = sb.laws.fit_stays s.stores k f.stores l in
    made (flip_in Sb s k) f.image f.memory f.memory_bytes f.issued f.cache f.pc f.npc f.tables f.buffer f.d f.m f.w f.registers here f.port
flip-keeps Port s k f l =
    let here = port.laws.fit_stays s.port k f.port l in
    made (flip_in Port s k) f.image f.memory f.memory_bytes f.issued f.cache f.pc f.npc f.tables f.buffer f.d f.m f.w f.registers f.stores here
flip-keeps CData s k f l =
    let here = cache_stays CData s.cache k f.cache tt l in
    made (flip_in CData s k) f.image f.memory f.memory_bytes f.issued here f.pc f.npc f.tables f.buffer f.d f.m f.w f.registers f.stores f.port
flip-keeps CTag s k f l =
    let here = cache_stays CTag s.cache k f.cache tt l in
    made (flip_in CTag s k) f.image f.memory f.memory_bytes f.issued here f.pc f.npc f.tables f.buffer f.d f.m f.w f.registers f.stores f.port
flip-keeps CValid s k f l =
    let here = cache_stays CValid s.cache k f.cache tt l in
    made (flip_in CValid s k) f.image f.memory f.memory_bytes f.issued here f.pc f.npc f.tables f.buffer f.d f.m f.w f.registers f.stores f.port
flip-keeps CDirty s k f l =
    let here = cache_stays CDirty s.cache k f.cache tt l in
    made (flip_in CDirty s k) f.image f.memory f.memory_bytes f.issued here f.pc f.npc f.tables f.buffer f.d f.m f.w f.registers f.stores f.port
flip-keeps CLru s k f l =
    let here = cache_stays CLru s.cache k f.cache tt l in
    made (flip_in CLru s k) f.image f.memory f.memory_bytes f.issued here f.pc f.npc f.tables f.buffer f.d f.m f.w f.registers f.stores f.port

pub in-range : (a : Structure) (s : State) (k : ℕ) (q : Place) → InRange s q → InRange (flip_in a s k) q
in-range Pc s k q h = h
in-range Npc s k q h = h
in-range Bht s k q h = h
in-range Btb s k q h = h
in-range Ib s k q h = h
in-range IdEx s k q h = h
in-range ExMem s k q h = h
in-range MemWb s k q h = h
in-range Rf s k q h = h
in-range Sb s k q h = h
in-range Port s k q h = h
in-range CData s k q h = h
in-range CTag s k q h = h
in-range CValid s k q h = h
in-range CDirty s k q h = h
in-range CLru s k q h = h
