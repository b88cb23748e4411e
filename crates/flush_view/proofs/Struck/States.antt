-- The laws of struck fields, over states.
use Rattle.std.proofs.Common.{◌≡◌, ℕ, ◌/◌, ◌%◌, Bool, true, false, List, refl}
use Rattle.std.specs.Prelude.{None}
use Rattle.elf_load.specs.Image.{in_ram, ram_byte}
use Rattle.predictor.specs.Tables.{Tables}
use Rattle.store_buf.specs.Covers.{found}
use Rattle.store_buf.specs.Pending.{pending}
use Rattle.wb_cache.specs.Changes.{put_slot}
use Rattle.wb_cache.specs.Contents.{Contents, Slot, slot_at, slots}
use Rattle.cyc_machine.specs.PortState.{PortState}
use Rattle.cyc_machine.specs.State.{State}
use Rattle.flush_view.specs.Coherence.{Coherent, IsCoherent}
use Rattle.flush_view.specs.Flush.{flush}
use Rattle.flush_view.specs.Struck.{IsReplaced, MeansSame, OtherBytes, Replaces, SameOutside, StruckLaws, retimed, with_cache}
use Rattle.flush_view.specs.Views.{cached, view}
use Rattle.wb_cache.proofs.Ways.{Slots}
use Rattle.flush_view.proofs.Struck.LineSlots.{other-cached, other-coherent, replaced-cached, replaced-coherent}
use Rattle.flush_view.proofs.Struck.StoreSlots.{other-store, overlaid-seen}

-- ---- what is not read

means-same : (s : State) (pc : ℕ) (tables : Tables) (port : PortState) (count : ℕ) (nodes : List Bool)
    → MeansSame s (retimed pc tables port count nodes s)
unfolding view flush slots slot_at
means-same s pc tables port count nodes = record { view = refl; coherent = λ out coherent. coherent; flush = λ clocks log. refl }

-- ---- a slot is replaced

-- the view with other contents of the cache
with_cache-view : (s : State) (contents : Contents) (other : Slots) (seen : ℕ → ℕ) (p : ℕ) → contents.shape ≡ s.cache.shape → slots contents ≡ other
    → (found (pending s.stores) (p / 4) (p % 4) ≡ None
    → seen (cached s.cache.shape (ram_byte s.image s.memory) other p) ≡ seen (cached s.cache.shape (ram_byte s.image s.memory) (slots s.cache) p))
    → seen (view (with_cache contents s) p) ≡ seen (view s p)
unfolding view
with_cache-view s contents other seen p e f same = go (in_ram s.image p) refl
  where
    go : (b : Bool) → in_ram s.image p ≡ b → seen (view (with_cache contents s) p) ≡ seen (view s p)
    go true h =
        rw (h, f, e)
        (overlaid-seen (pending s.stores) seen p (cached s.cache.shape (ram_byte s.image s.memory) other p)
        (cached s.cache.shape (ram_byte s.image s.memory) (slots s.cache) p) same)
    go false h = rw h refl

with_cache-coherent : (s : State) (contents : Contents) (other : Slots) (out : ℕ → Bool) → contents.shape ≡ s.cache.shape → slots contents ≡ other
    → Coherent s.cache.shape out (ram_byte s.image s.memory) other → IsCoherent out (with_cache contents s)
with_cache-coherent s contents other out e f coherent = rw (f, e) coherent

replaced : (out : ℕ → Bool) (s : State) (contents : Contents) (set way : ℕ) (new : Slot) → IsReplaced s contents set way new
    → Replaces s.cache.shape out set (slots s.cache set way) new → IsCoherent out s → SameOutside out s (with_cache contents s)
replaced out s contents set way new is r coherent = record {
  coherent =
      with_cache-coherent s contents (put_slot set way new (slots s.cache)) out is.shape is.slots
      (replaced-coherent s.cache.shape out (ram_byte s.image s.memory) (slots s.cache) set way new is.within r coherent);
  view =
      λ p o. with_cache-view s contents (put_slot set way new (slots s.cache)) (λ x. x) p is.shape is.slots
      (λ none. replaced-cached s.cache.shape out (ram_byte s.image s.memory) (slots s.cache) set way new is.within r coherent p o);
}

other-bytes : (s : State) (contents : Contents) (set way : ℕ) (bytes : ℕ → ℕ)
    → IsReplaced s contents set way (record (slots s.cache set way) { bytes = bytes })
    → OtherBytes s contents set way bytes
other-bytes s contents set way bytes is = record {
  coherent =
      λ dirty out coherent. with_cache-coherent s contents (put_slot set way (record (slots s.cache set way) { bytes = bytes }) (slots s.cache)) out
      is.shape is.slots
      (other-coherent s.cache.shape (slots s.cache) set way bytes dirty out (ram_byte s.image s.memory) coherent);
  view =
      λ seen p same. with_cache-view s contents (put_slot set way (record (slots s.cache set way) { bytes = bytes }) (slots s.cache)) seen p is.shape is.slots
      (λ none. other-cached s.cache.shape (slots s.cache) set way bytes (ram_byte s.image s.memory) seen p (same none));
}

pub struck-laws : StruckLaws
struck-laws = record { unread = means-same; replaced = replaced; bytes = other-bytes; store = other-store }
