-- The bytes of slots and of main memory are below 256.
use Rattle.std.proofs.Common.{ℕ, ◌+◌, ◌-◌, ◌*◌, ◌<◌, Bool, true, false, cond, List, lit<}
use Rattle.std.specs.Prelude.{◌&&◌, nat_lt, slice_index}
use Rattle.elf_load.specs.Image.{LoadedImage, in_ram, ram_byte}
use Rattle.elf_load.proofs.ByteLists.{index-below}
use Rattle.wb_cache.specs.Contents.{AreBytes, Contents, no_slot, slot_at, slot_of, slots}

pub slot_byte-below : (c : Contents) (set way o : ℕ) → AreBytes c.bytes → (slots c set way).bytes o < 256
unfolding slots slot_at
slot_byte-below c set way o is = go (nat_lt set c.shape.sets && nat_lt way c.shape.ways) (nat_lt o 16)
  where
    inner : (b : Bool) → cond b (slice_index c.bytes (16 * slot_of c.shape set way + o)) 0 < 256
    inner true = index-below c.bytes (16 * slot_of c.shape set way + o) is
    inner false = lit< tt

    go : (a b : Bool) → (cond a (slot_at c (slot_of c.shape set way)) no_slot).bytes o < 256
    go true b = inner (nat_lt o 16)
    go false b = lit< tt

pub ram_byte-below : (image : LoadedImage) (memory : List ℕ) (p : ℕ) → AreBytes memory → ram_byte image memory p < 256
unfolding ram_byte
ram_byte-below image memory p is = go (in_ram image p)
  where
    go : (b : Bool) → cond b (slice_index memory (p - image.base)) 0 < 256
    go true = index-below memory (p - image.base) is
    go false = lit< tt
