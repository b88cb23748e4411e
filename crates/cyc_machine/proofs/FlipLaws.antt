-- A flip at a place, structure by structure.
use Rattle.std.proofs.Common.{◌≡◌, ◌≢◌, ℕ, ◌-◌, ◌<◌, refl, ap}
use Rattle.bit_field.specs.Shapes.{bits_in}
use Rattle.bit_field.specs.declared.places.Structure.{Structure}
use Rattle.bit_field.specs.declared.places.Structure.TheVariants.{Pc, Npc, Bht, Btb, Ib, IdEx, ExMem, MemWb, Rf, Sb, Port, CData, CTag, CValid, CDirty, CLru}
use Rattle.inst_buf.proofs.BufferLaws as ib
use Rattle.predictor.proofs.HistoryLaws as history
use Rattle.predictor.proofs.TargetLaws as targets
use Rattle.pipe_latch.proofs.DecodedLaws as idex
use Rattle.pipe_latch.proofs.ExecutedLaws as exmem
use Rattle.pipe_latch.proofs.ResultLaws as memwb
use Rattle.store_buf.proofs.BufferLaws as sb
use Rattle.wb_cache.proofs.Strikes.{cache_flips_it, cache_flips_no_other, cache_restores}
use Rattle.cyc_machine.proofs.RegisterLaws as registers
use Rattle.cyc_machine.proofs.PortLaws as port
use Rattle.cyc_machine.specs.Facts.{IsMachine}
use Rattle.cyc_machine.specs.FlipLaw.{FlipsBack, FlipsNoOther, FlipsThatBit}
use Rattle.cyc_machine.specs.State.{State}
use Rattle.cyc_machine.specs.Strikes.{bit_in, flip_in}

flips_it : (a : Structure) (s : State) (k : ℕ) → IsMachine s → k < bits_in a s.cache.shape → bit_in a (flip_in a s k) k ≡ 1 - bit_in a s k
flips_it Pc s k f l = registers.counter_laws.flips_it s.pc k f.pc l
flips_it Npc s k f l = registers.counter_laws.flips_it s.npc k f.npc l
flips_it Bht s k f l = history.laws.flips_it s.tables.history k f.tables.history l
flips_it Btb s k f l = targets.laws.flips_it s.tables.targets k f.tables.targets l
flips_it Ib s k f l = ib.laws.flips_it s.buffer k f.buffer l
flips_it IdEx s k f l = idex.laws.flips_it s.d k f.d l
flips_it ExMem s k f l = exmem.laws.flips_it s.m k f.m l
flips_it MemWb s k f l = memwb.laws.flips_it s.w k f.w l
flips_it Rf s k f l = registers.file_laws.flips_it s.registers k f.registers l
flips_it Sb s k f l = sb.laws.flips_it s.stores k f.stores l
flips_it Port s k f l = port.laws.flips_it s.port k f.port l
flips_it CData s k f l = cache_flips_it CData s.cache k f.cache tt l
flips_it CTag s k f l = cache_flips_it CTag s.cache k f.cache tt l
flips_it CValid s k f l = cache_flips_it CValid s.cache k f.cache tt l
flips_it CDirty s k f l = cache_flips_it CDirty s.cache k f.cache tt l
flips_it CLru s k f l = cache_flips_it CLru s.cache k f.cache tt l

flips_no_other : (a b : Structure) (s : State) (k j : ℕ) → IsMachine s → k < bits_in a s.cache.shape → j < bits_in b s.cache.shape → (a ≡ b → j ≢ k)
    → bit_in b (flip_in a s k) j ≡ bit_in b s j
flips_no_other Pc Pc s k j f l m ne = registers.counter_laws.flips_no_other s.pc k j f.pc l m (ne refl)
flips_no_other Npc Npc s k j f l m ne = registers.counter_laws.flips_no_other s.npc k j f.npc l m (ne refl)
flips_no_other Bht Bht s k j f l m ne = history.laws.flips_no_other s.tables.history k j f.tables.history l m (ne refl)
flips_no_other Btb Btb s k j f l m ne = targets.laws.flips_no_other s.tables.targets k j f.tables.targets l m (ne refl)
flips_no_other Ib Ib s k j f l m ne = ib.laws.flips_no_other s.buffer k j f.buffer l m (ne refl)
flips_no_other IdEx IdEx s k j f l m ne = idex.laws.flips_no_other s.d k j f.d l m (ne refl)
flips_no_other ExMem ExMem s k j f l m ne = exmem.laws.flips_no_other s.m k j f.m l m (ne refl)
flips_no_other MemWb MemWb s k j f l m ne = memwb.laws.flips_no_other s.w k j f.w l m (ne refl)
flips_no_other Rf Rf s k j f l m ne = registers.file_laws.flips_no_other s.registers k j f.registers l m (ne refl)
flips_no_other Sb Sb s k j f l m ne = sb.laws.flips_no_other s.stores k j f.stores l m (ne refl)
flips_no_other Port Port s k j f l m ne = port.laws.flips_no_other s.port k j f.port l m (ne refl)
flips_no_other CData CData s k j f l m ne = cache_flips_no_other CData CData s.cache k j f.cache tt l m ne
flips_no_other CData CTag s k j f l m ne = cache_flips_no_other CData CTag s.cache k j f.cache tt l m ne
flips_no_other CData CValid s k j f l m ne = cache_flips_no_other CData CValid s.cache k j f.cache tt l m ne
flips_no_other CData CDirty s k j f l m ne = cache_flips_no_other CData CDirty s.cache k j f.cache tt l m ne
flips_no_other CData CLru s k j f l m ne = cache_flips_no_other CData CLru s.cache k j f.cache tt l m ne
flips_no_other CTag CData s k j f l m ne = cache_flips_no_other CTag CData s.cache k j f.cache tt l m ne
flips_no_other CTag CTag s k j f l m ne = cache_flips_no_other CTag CTag s.cache k j f.cache tt l m ne
flips_no_other CTag CValid s k j f l m ne = cache_flips_no_other CTag CValid s.cache k j f.cache tt l m ne
flips_no_other CTag CDirty s k j f l m ne = cache_flips_no_other CTag CDirty s.cache k j f.cache tt l m ne
flips_no_other CTag CLru s k j f l m ne = cache_flips_no_other CTag CLru s.cache k j f.cache tt l m ne
flips_no_other CValid CData s k j f l m ne = cache_flips_no_other CValid CData s.cache k j f.cache tt l m ne
flips_no_other CValid CTag s k j f l m ne = cache_flips_no_other CValid CTag s.cache k j f.cache tt l m ne
flips_no_other CValid CValid s k j f l m ne = cache_flips_no_other CValid CValid s.cache k j f.cache tt l m ne
flips_no_other CValid CDirty s k j f l m ne = cache_flips_no_other CValid CDirty s.cache k j f.cache tt l m ne
flips_no_other CValid CLru s k j f l m ne = cache_flips_no_other CValid CLru s.cache k j f.cache tt l m ne
flips_no_other CDirty CData s k j f l m ne = cache_flips_no_other CDirty CData s.cache k j f.cache tt l m ne
flips_no_other CDirty CTag s k j f l m ne = cache_flips_no_other CDirty CTag s.cache k j f.cache tt l m ne
flips_no_other CDirty CValid s k j f l m ne = cache_flips_no_other CDirty CValid s.cache k j f.cache tt l m ne
flips_no_other CDirty CDirty s k j f l m ne = cache_flips_no_other CDirty CDirty s.cache k j f.cache tt l m ne
flips_no_other CDirty CLru s k j f l m ne = cache_flips_no_other CDirty CLru s.cache k j f.cache tt l m ne
flips_no_other CLru CData s k j f l m ne = cache_flips_no_other CLru CData s.cache k j f.cache tt l m ne
flips_no_other CLru CTag s k j f l m ne = cache_flips_no_other CLru CTag s.cache k j f.cache tt l m ne
flips_no_other CLru CValid s k j f l m ne = cache_flips_no_other CLru CValid s.cache k j f.cache tt l m ne
flips_no_other CLru CDirty s k j f l m ne = cache_flips_no_other CLru CDirty s.cache k j f.cache tt l m ne
flips_no_other CLru CLru s k j f l m ne = cache_flips_no_other CLru CLru s.cache k j f.cache tt l m ne
flips_no_other _ _ s k j f l m ne = refl

restores : (a : Structure) (s : State) (k : ℕ) → IsMachine s → k < bits_in a s.cache.shape → flip_in a (flip_in a s k) k ≡ s
restores Pc s k f l = ap (λ x. record s { pc = x }) (registers.counter_laws.restores s.pc k f.pc l)
restores Npc s k f l = ap (λ x. record s { npc = x }) (registers.counter_laws.restores s.npc k f.npc l)
restores Bht s k f l = ap (λ x. record s { tables = record s.tables { history = x } }) (history.laws.restores s.tables.history k f.tables.history l)
restores Btb s k f l = ap (λ x. record s { tables = record s.tables { targets = x } }) (targets.laws.restores s.tables.targets k f.tables.targets l)
restores Ib s k f l = ap (λ x. record s { buffer = x }) (ib.laws.restores s.buffer k f.buffer l)
restores IdEx s k f l = ap (λ x. record s { d = x }) (idex.laws.restores s.d k f.d l)
restores ExMem s k f l = ap (λ x. record s { m = x }) (exmem.laws.restores s.m k f.m l)
restores MemWb s k f l = ap (λ x. record s { w = x }) (memwb.laws.restores s.w k f.w l)
restores Rf s k f l = ap (λ x. record s { registers = x }) (registers.file_laws.restores s.registers k f.registers l)
restores Sb s k f l = ap (λ x. record s { stores = x }) (sb.laws.restores s.stores k f.stores l)
restores Port s k f l = ap (λ x. record s { port = x }) (port.laws.restores s.port k f.port l)
restores CData s k f l = ap (λ x. record s { cache = x }) (cache_restores CData s.cache k f.cache tt l)
restores CTag s k f l = ap (λ x. record s { cache = x }) (cache_restores CTag s.cache k f.cache tt l)
restores CValid s k f l = ap (λ x. record s { cache = x }) (cache_restores CValid s.cache k f.cache tt l)
restores CDirty s k f l = ap (λ x. record s { cache = x }) (cache_restores CDirty s.cache k f.cache tt l)
restores CLru s k f l = ap (λ x. record s { cache = x }) (cache_restores CLru s.cache k f.cache tt l)

pub flips-that-bit : FlipsThatBit
flips-that-bit s p f l = flips_it p.structure s p.bit f l

pub flips-no-other : FlipsNoOther
flips-no-other s p q f l m ne = flips_no_other p.structure q.structure s p.bit q.bit f l m ne

pub flips-back : FlipsBack
flips-back s p f l = restores p.structure s p.bit f l
