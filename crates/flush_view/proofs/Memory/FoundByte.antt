-- The byte that the cache finds, else main memory's.
use Rattle.std.proofs.Common.{◌≡◌, ℕ, ◌/◌, ◌%◌, ◌-◌, ◌<◌, ◌≤◌, true, length, arith, refl}
use Rattle.std.specs.Prelude.{List, Option, Some, None, slice_index}
use Rattle.elf_load.specs.Image.{LoadedImage, in_ram, ram_byte}
use Rattle.elf_load.proofs.InRam.{in_ram-bounds}
use Rattle.std.specs.Option.{option_map}
use Rattle.wb_cache.specs.Access.{byte_of}
use Rattle.wb_cache.specs.Contents.{Contents, slots}
use Rattle.wb_cache.specs.Lookup.{set_of, way_of}
use Rattle.wb_cache.specs.Contents.{Slot}
use Rattle.flush_view.specs.Views.{byte_in, cached}

some_by : (way : Option ℕ) (set : ℕ → Slot) (p beside b : ℕ) → Some b ≡ option_map (λ w. (set w).bytes (p % 16)) way → b ≡ byte_in way set p beside
some_by (Some w) set p beside b h = cc
some_by None set p beside b h = absurd cc

none_by : (way : Option ℕ) (set : ℕ → Slot) (p beside : ℕ) → None ≡ option_map (λ w. (set w).bytes (p % 16)) way → beside ≡ byte_in way set p beside
none_by (Some w) set p beside h = absurd cc
none_by None set p beside h = refl

pub cached-found : (c : Contents) (ram : ℕ → ℕ) (p b : ℕ) → Some b ≡ byte_of c p → b ≡ cached c.shape ram (slots c) p
unfolding byte_of cached
cached-found c ram p b h = some_by (way_of c.shape (slots c) (p / 16)) (slots c (set_of c.shape (p / 16))) p (ram p) b h

pub cached-beside : (c : Contents) (ram : ℕ → ℕ) (p : ℕ) → None ≡ byte_of c p → ram p ≡ cached c.shape ram (slots c) p
unfolding byte_of cached
cached-beside c ram p h = none_by (way_of c.shape (slots c) (p / 16)) (slots c (set_of c.shape (p / 16))) p (ram p) h

pub ram-inside : (image : LoadedImage) (memory : List ℕ) (p base : ℕ) → in_ram image p ≡ true → base ≡ image.base
    → slice_index memory (p - base) ≡ ram_byte image memory p
unfolding ram_byte
ram-inside image memory p base h e = rw (h, e) refl

pub ruleset founds = (cached-found, cached-beside, ram-inside)

-- the place of a byte of RAM in main memory
pub ram-above : (image : LoadedImage) (p : ℕ) → in_ram image p ≡ true → image.base ≤ p
ram-above image p h = (in_ram-bounds image p h).0

pub ram-within : (image : LoadedImage) (p n : ℕ) → in_ram image p ≡ true → n ≡ length image.ram → p - image.base < n
ram-within image p n h e = omega (arith, (in_ram-bounds image p h).0, (in_ram-bounds image p h).1)

pub ruleset inside = (ram-above, ram-within)
