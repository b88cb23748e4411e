-- What a cycle keeps of every machine's state, and what the laws of a cycle need of it.
use Rattle.std.proofs.Common.{◌≡◌, ℕ, zero, suc, ◌+◌, ◌*◌, ◌/◌, ◌^◌, ◌<◌, arith, lit<, refl, ◌∙◌}
use Rattle.std.specs.Prelude.{Option, Some, None, IsSome}
use Rattle.std.proofs.lemmas.List.Elements.{All-replicate}
use Rattle.bit_field.specs.Shapes.{IsShape}
use Rattle.bit_field.specs.declared.shapes.Shape.{Shape}
use Rattle.elf_load.specs.Image.{LoadedImage, IsImage, fetch}
use Rattle.elf_load.proofs.Executable.{executable-in_ram, fetch-executable, word_executable-byte}
use Rattle.elf_load.proofs.InRam.{in_ram-below}
use Rattle.inst_buf.specs.Buffer.{entries}
use Rattle.inst_buf.specs.Entry.{no_entry as no_fetched}
use Rattle.inst_buf.specs.EntryBits as slot_bits
use Rattle.predictor.specs.EntryBits as target_bits
use Rattle.predictor.specs.Places as tables_bits
use Rattle.predictor.specs.Tables.{fresh_tables, no_target, predicted}
use Rattle.store_buf.specs.EntryBits as store_bits
use Rattle.store_buf.specs.Entry.{no_entry as no_pending}
use Rattle.store_buf.specs.Pending.{pending}
use Rattle.store_buf.proofs.Packed.{length-packed, length-pending}
use Rattle.wb_cache.specs.Contents.{IsContents}
use Rattle.wb_cache.proofs.Empty.{contents-empty}
use Rattle.cyc_machine.specs.declared.fate.Fate.{Fate}
use Rattle.cyc_machine.specs.declared.fate.Fate.TheVariants.{Absent, Dropped, Stays, Goes}
use Rattle.cyc_machine.specs.Cycle.{action_in_m, cycle, cycled, fate, move, served_m}
use Rattle.cyc_machine.specs.Facts.{IsMachine}
use Rattle.cyc_machine.specs.Memory.{stores_after}
use Rattle.cyc_machine.specs.Pipeline.{issued_after}
use Rattle.cyc_machine.specs.Run.{state_after}
use Rattle.cyc_machine.specs.Sizes.{HoldsBytes, IsSteady}
use Rattle.cyc_machine.specs.State.{State, reset}
use Rattle.cyc_machine.proofs.PendingNext.{pending-after}
use Rattle.cyc_machine.proofs.Sizes.CacheKept.{cache_after-bytes, cache_after-sized, contents-next, memory_after-bytes, memory_after-long, ram-bytes}
use Rattle.cyc_machine.proofs.Sizes.Front.{buffer-fits, decoded_after-steady, npc_after-below, pc_after-below, predicted-below, tables-fit}
use Rattle.cyc_machine.proofs.Sizes.Widths.{executed_after-steady, length-written_registers, port_after-below, result_after-rd, stores_after-length}
use Rattle.cyc_machine.proofs.Sizes.Widths.{stores_after-steady}

pub bytes-next : (s : State) → HoldsBytes s → HoldsBytes (cycle s)
unfolding cycled
bytes-next s bytes = record {
  cache = cache_after-bytes s.image (move s) s.memory s.cache bytes.cache bytes.memory;
  memory = memory_after-bytes s.image (move s) s.cache s.memory bytes.cache bytes.memory;
}

pub bytes-reset : (image : LoadedImage) (shape : Shape) → IsImage image → IsShape shape → HoldsBytes (reset image shape)
unfolding reset
bytes-reset image shape is fits = record {
  cache = (contents-empty shape fits).bytes;
  memory = ram-bytes image is;
}

-- the entry of an image is a word address
entry-below : (image : LoadedImage) → IsImage image → image.entry / 4 < 2 ^ 30
entry-below image is = go (fetch image (image.entry / 4)) refl is.entry_executable
  where
    go : (o : Option ℕ) → fetch image (image.entry / 4) ≡ o → IsSome o → image.entry / 4 < 2 ^ 30
    go (Some x) e h =
        let word = fetch-executable image (image.entry / 4) x e in
        let inside = executable-in_ram image (4 * (image.entry / 4) + 0) (word_executable-byte image (image.entry / 4) 0 word (omega arith)) in
        let below = in_ram-below image (4 * (image.entry / 4) + 0) is inside in
        omega (arith, below)
    go None e h = absurd cc

pub machine-steady : (s : State) → IsMachine s → IsSteady s
machine-steady s is = record {
  image = is.image;
  memory = is.memory;
  cache = is.cache.sized;
  tags = is.cache.widths;
  bytes = record { cache = is.cache.bytes; memory = is.memory_bytes };
  pc = is.pc;
  npc = is.npc;
  tables = is.tables;
  buffer = is.buffer;
  d =
      record {
        pc = is.d.1.0;
        op = is.d.1.1.0;
        rd = is.d.1.1.1.0;
        rs1 = is.d.1.1.1.1.0;
        rs2 = is.d.1.1.1.1.1.0;
        imm = is.d.1.1.1.1.1.1.1.1.0;
        count = is.d.1.1.1.1.1.1.1.1.1.0;
      };
  m = record { kind = is.m.1.0; rd = is.m.1.1.0; cause = is.m.1.1.1.1.1.0 };
  w_rd = is.w.0;
  registers = is.registers.0;
  port = is.port.0;
  slots = is.stores.0;
  masks = λ k e l. let fit = is.stores.1 k e l in (fit.0, fit.1.0);
  stores = omega (arith, length-pending s.stores, is.stores.0);
  issued = is.issued;
}

abbrev pub contents : (s : State) → IsSteady s → IsContents s.cache
contents s is = record { sized = is.cache; bytes = is.bytes.cache; widths = is.tags }

counted-below : (f : Fate) (issued : ℕ) → issued < 2 ^ 32 → issued_after f issued < 2 ^ 32
unfolding issued_after
counted-below (Goes a b) issued h = omega arith
counted-below Absent issued h = h
counted-below Dropped issued h = h
counted-below Stays issued h = h

pub steady-next : (s : State) → IsSteady s → IsSteady (cycle s)
unfolding cycled
steady-next s is = record {
  image = is.image;
  memory = memory_after-long s.image (move s) s.cache s.memory is.image is.memory is.cache;
  cache = cache_after-sized s.image (move s) s.memory s.cache is.image is.memory is.cache;
  tags = (contents-next s is.image is.memory is.bytes.memory (contents s is)).widths;
  bytes = bytes-next s is.bytes;
  pc = pc_after-below (fate s) (predicted s.tables s.pc) (entries s.buffer) s.npc s.pc (predicted-below s.tables s.pc is.tables) is.npc is.pc;
  npc = npc_after-below (fate s) s.d s.cycle s.issued s.npc is.npc;
  tables = tables-fit (fate s) s.d s.cycle s.issued s.tables is.d.pc is.tables;
  buffer = buffer-fits s.image (fate s) s.pc s.buffer is.image is.pc is.buffer;
  d = decoded_after-steady (fate s) s.d s.buffer s.w s.registers is.d is.buffer;
  m = executed_after-steady s.image (fate s) (served_m s).goes s.d s.cycle s.issued s.m is.d.rd is.m;
  w_rd = result_after-rd s.m (served_m s) is.m.rd;
  registers = length-written_registers s.w s.registers ∙ is.registers;
  port = port_after-below s.port s.cache _ _ is.port;
  slots =
      length-packed (stores_after s.image (action_in_m s) (move s) (pending s.stores))
      (stores_after-length s.image (action_in_m s) (move s) (pending s.stores) is.stores);
  masks = stores_after-steady s.image (action_in_m s) (move s) s.stores is.image is.masks;
  stores = rw (pending-after s.image (action_in_m s) (move s) s.stores) (stores_after-length s.image (action_in_m s) (move s) (pending s.stores) is.stores);
  issued = counted-below (fate s) s.issued is.issued;
}

pub machine-reset : (image : LoadedImage) (shape : Shape) → IsImage image → IsShape shape → IsMachine (reset image shape)
unfolding reset
machine-reset image shape is fits = record {
  image = is;
  memory = refl;
  memory_bytes = ram-bytes image is;
  issued = lit< tt;
  cache = contents-empty shape fits;
  pc = entry-below image is;
  npc = entry-below image is;
  tables = tables-fresh;
  buffer = (refl, All-replicate slot_bits.IsFit 4 no_fetched (lit< tt, (lit< tt, (lit< tt, (lit< tt, tt)))));
  d = (lit< tt, (lit< tt, (lit< tt, (lit< tt, (lit< tt, (lit< tt, (lit< tt, (lit< tt, (lit< tt, (lit< tt, tt))))))))));
  m = (lit< tt, (lit< tt, (lit< tt, (lit< tt, (lit< tt, (lit< tt, tt))))));
  w = (lit< tt, (lit< tt, tt));
  registers = (refl, All-replicate (λ v. v < 2 ^ 32) 31 0 (lit< tt));
  stores = (refl, All-replicate store_bits.IsFit 4 no_pending (lit< tt, (lit< tt, (lit< tt, tt))));
  port = (lit< tt, (lit< tt, tt));
}
  where
    tables-fresh : tables_bits.IsFit fresh_tables
    tables-fresh = record {
      history = (refl, All-replicate (λ counter. counter < 2 ^ 2) 64 1 (lit< tt));
      targets = (refl, All-replicate target_bits.IsFit 16 no_target (lit< tt, (lit< tt, (lit< tt, tt))));
    }

pub steady-reset : (image : LoadedImage) (shape : Shape) → IsImage image → IsShape shape → IsSteady (reset image shape)
steady-reset image shape is fits = machine-steady (reset image shape) (machine-reset image shape is fits)

pub steady-after : (n : ℕ) (s : State) → IsSteady s → IsSteady (state_after n s)
unfolding state_after
steady-after zero s is = is
steady-after (suc n) s is = steady-next (state_after n s) (steady-after n s is)
