-- A move of the port keeps the cache's shape.
use Rattle.std.proofs.Common.{◌≡◌, ℕ, ◌/◌, ◌%◌, List, refl}
use Rattle.elf_load.specs.Image.{LoadedImage}
use Rattle.wb_cache.specs.Contents.{Contents}
use Rattle.wb_cache.proofs.Kept.{shape-after_read, shape-after_refill, shape-after_write}
use Rattle.cyc_machine.specs.declared.port.Move.{Move}
use Rattle.cyc_machine.specs.declared.port.Move.TheVariants.{Rests, Reads, Drains, Misses, Waits, Leaves, Fills}
use Rattle.cyc_machine.specs.Memory.{cache_after}

pub shape-moved : (image : LoadedImage) (c : Contents) (memory : List ℕ) (v : Move) → (cache_after image v memory c).shape ≡ c.shape
unfolding cache_after
shape-moved image c memory Rests = refl
shape-moved image c memory (Reads word way) = shape-after_read c (word / 4)
shape-moved image c memory (Drains e way) = shape-after_write c (e.addr / 4) (e.addr % 4) e.mask e.value
shape-moved image c memory (Misses line way count owner) = refl
shape-moved image c memory Waits = refl
shape-moved image c memory Leaves = refl
shape-moved image c memory (Fills line way) = shape-after_refill image line memory c
