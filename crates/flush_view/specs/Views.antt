-- The view of memory: the byte that main memory, the cache and the store buffer together give, whatever they hold.
use Rattle.std.specs.Prelude.{ℕ, ◌/◌, ◌%◌, ◌==◌, ◌&&◌, cond, List, [], ◌∷◌, Option, Some, None, if◌then◌else◌}
use Rattle.bit_field.specs.declared.shapes.Shape.{Shape}
use Rattle.elf_load.specs.Image.{in_ram, ram_byte}
use Rattle.bit_field.specs.Lanes.{has_lane, lane_byte}
use Rattle.store_buf.specs.Entry.{Entry}
use Rattle.store_buf.specs.Pending.{pending}
use Rattle.wb_cache.specs.Contents.{Slot, slots}
use Rattle.wb_cache.specs.Lookup.{set_of, way_of}
use Rattle.cyc_machine.specs.State.{State}

-- the byte of the way where the line was found, else the one beside it
abbrev pub byte_in : Option ℕ → (ℕ → Slot) → ℕ → ℕ → ℕ
byte_in (Some way) set p beside = (set way).bytes (p % 16)
byte_in None set p beside = beside

-- byte p of the first valid way that holds its line, else of main memory
unfoldable pub cached : Shape → (ℕ → ℕ) → (ℕ → ℕ → Slot) → ℕ → ℕ
cached shape ram cache p = byte_in (way_of shape cache (p / 16)) (cache (set_of shape (p / 16))) p (ram p)

-- byte p of a pending store that holds it, else the byte below
abbrev pub over : Entry → ℕ → ℕ → ℕ
over e p below = cond (e.addr == p / 4 && has_lane e.mask (p % 4)) (lane_byte e.value (p % 4)) below

-- byte p of the pending stores from the oldest to the youngest, over the byte below them
unfoldable pub overlaid : List Entry → ℕ → ℕ → ℕ
overlaid [] p below = below
overlaid (e ∷ es) p below = overlaid es p (over e p below)

-- byte p as the program sees it, 0 outside RAM
unfoldable pub view : State → ℕ → ℕ
view s p =
    if in_ram s.image p
    then overlaid (pending s.stores) p (cached s.cache.shape (ram_byte s.image s.memory) (slots s.cache) p)
    else 0
