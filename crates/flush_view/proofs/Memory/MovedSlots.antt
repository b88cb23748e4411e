-- A move of the port as a change of slots and of main memory, of the state's lists.
use Rattle.std.proofs.Common.{◌≡◌, ℕ, ◌/◌, ◌%◌, List, length, arith, refl, sym, ap, ◌∙◌}
use Rattle.std.specs.Prelude.{Option}
use Rattle.elf_load.specs.Image.{LoadedImage, IsImage, ram_byte}
use Rattle.store_buf.specs.Entry.{Entry}
use Rattle.wb_cache.specs.Contents.{Contents, IsSized, slots}
use Rattle.wb_cache.proofs.Calls.{ram-after_refill, slots-after_read, slots-after_refill, slots-after_write}
use Rattle.cyc_machine.specs.declared.port.Move.{Move}
use Rattle.cyc_machine.specs.declared.port.Move.TheVariants.{Rests, Reads, Drains, Misses, Waits, Leaves, Fills}
use Rattle.cyc_machine.specs.Memory.{cache_after, memory_after}
use Rattle.flush_view.proofs.Memory.Drain.{drained}
use Rattle.flush_view.proofs.Memory.Fill.{filled, written}
use Rattle.cyc_machine.proofs.Tells.{Tells}
use Rattle.wb_cache.proofs.Ways.{Slots}

-- what a move makes of slots and of main memory
abbrev pub moved : LoadedImage → Contents → Move → (ℕ → ℕ) → Slots → Slots
moved image c (Drains e way) ram cache = drained c.shape e way cache
moved image c (Fills line way) ram cache = filled image c.shape line way cache ram
moved image c _ ram cache = cache

abbrev pub moved_ram : LoadedImage → Contents → Move → Slots → (ℕ → ℕ) → ℕ → ℕ
moved_ram image c (Fills line way) cache ram = written image c.shape line way cache ram
moved_ram image c _ cache ram = ram

pub slots-moved : (image : LoadedImage) (c : Contents) (memory : List ℕ) (load : Option ℕ) (store : Option Entry) (v : Move) → IsImage image
    → length memory ≡ length image.ram → IsSized c → Tells c load store v
    → slots (cache_after image v memory c) ≡ moved image c v (ram_byte image memory) (slots c)
unfolding cache_after
slots-moved image c memory load store Rests is long sized t = refl
slots-moved image c memory load store (Reads word way) is long sized t = slots-after_read c (word / 4)
slots-moved image c memory load store (Drains e way) is long sized t =
    slots-after_write c (e.addr / 4) (e.addr % 4) e.mask e.value way sized (omega arith) t.1
slots-moved image c memory load store (Misses line way count owner) is long sized t = refl
slots-moved image c memory load store Waits is long sized t = refl
slots-moved image c memory load store Leaves is long sized t = refl
slots-moved image c memory load store (Fills line way) is long sized t =
    slots-after_refill image line memory c is long sized
    ∙ ap (λ w. filled image c.shape line w (slots c) (ram_byte image memory)) (sym t.1)

pub ram-moved : (image : LoadedImage) (c : Contents) (memory : List ℕ) (load : Option ℕ) (store : Option Entry) (v : Move) → IsImage image
    → length memory ≡ length image.ram → IsSized c → Tells c load store v
    → ram_byte image (memory_after image v c memory) ≡ moved_ram image c v (slots c) (ram_byte image memory)
unfolding memory_after
ram-moved image c memory load store Rests is long sized t = refl
ram-moved image c memory load store (Reads word way) is long sized t = refl
ram-moved image c memory load store (Drains e way) is long sized t = refl
ram-moved image c memory load store (Misses line way count owner) is long sized t = refl
ram-moved image c memory load store Waits is long sized t = refl
ram-moved image c memory load store Leaves is long sized t = refl
ram-moved image c memory load store (Fills line way) is long sized t =
    ram-after_refill image line memory c is long sized
    ∙ ap (λ w. written image c.shape line w (slots c) (ram_byte image memory)) (sym t.1)
