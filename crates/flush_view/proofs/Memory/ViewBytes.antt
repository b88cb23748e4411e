-- The bytes of the view are below 256.
use Rattle.std.proofs.Common.{ℕ, ◌/◌, ◌%◌, ◌^◌, ◌<◌, Bool, true, false, cond, List, [], ◌∷◌, lit<}
use Rattle.std.specs.Prelude.{Option, Some, None, ◌==◌, ◌&&◌, if◌then◌else◌}
use Rattle.elf_load.specs.Image.{in_ram, ram_byte}
use Rattle.bit_field.specs.Lanes.{has_lane, lane_byte}
use Rattle.store_buf.specs.Entry.{Entry}
use Rattle.store_buf.specs.Pending.{pending}
use Rattle.wb_cache.specs.Contents.{slots}
use Rattle.wb_cache.specs.Lookup.{set_of, way_of}
use Rattle.cyc_machine.specs.Sizes.{HoldsBytes}
use Rattle.cyc_machine.specs.State.{State}
use Rattle.flush_view.specs.Views.{byte_in, cached, over, overlaid, view}
use Rattle.wb_cache.proofs.Bytes.{ram_byte-below, slot_byte-below}
use Rattle.flush_view.proofs.Memory.Loads.{byte_below}

over_below : (e : Entry) (p below : ℕ) → below < 2 ^ 8 → over e p below < 2 ^ 8
over_below e p below h = go (e.addr == p / 4 && has_lane e.mask (p % 4))
  where
    go : (b : Bool) → cond b (lane_byte e.value (p % 4)) below < 2 ^ 8
    go true = byte_below e.value (p % 4)
    go false = h

pub overlaid_below : (es : List Entry) (p below : ℕ) → below < 2 ^ 8 → overlaid es p below < 2 ^ 8
unfolding overlaid
overlaid_below [] p below h = h
overlaid_below (e ∷ es) p below h = overlaid_below es p (over e p below) (over_below e p below h)

pub view-below : (s : State) → HoldsBytes s → (p : ℕ) → view s p < 2 ^ 8
unfolding view cached
view-below s is p = go (in_ram s.image p)
  where
    found_below : (o : Option ℕ) → byte_in o (slots s.cache (set_of s.cache.shape (p / 16))) p (ram_byte s.image s.memory p) < 2 ^ 8
    found_below (Some way) = slot_byte-below s.cache (set_of s.cache.shape (p / 16)) way (p % 16) is.cache
    found_below None = ram_byte-below s.image s.memory p is.memory

    go : (b : Bool) → (if b then overlaid (pending s.stores) p (cached s.cache.shape (ram_byte s.image s.memory) (slots s.cache) p) else 0) < 2 ^ 8
    go true = overlaid_below (pending s.stores) p _ (found_below (way_of s.cache.shape (slots s.cache) (p / 16)))
    go false = lit< tt
