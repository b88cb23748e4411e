-- A pending store is written into the way that holds its line: the byte that the cache gives is the store's, over the old one.
use Rattle.std.proofs.Common.{◌≡◌, ℕ, ◌/◌, ◌%◌, Bool, true, arith, refl, ap, sym, ◌∙◌}
use Rattle.std.specs.Prelude.{Option, Some, None, ◌==◌}
use Rattle.std.proofs.lemmas.Bool.Decides.{nat_tests}
use Rattle.std.proofs.lemmas.Bool.{true≢false}
use Rattle.bit_field.specs.declared.shapes.Shape.{Shape}
use Rattle.store_buf.specs.Entry.{Entry}
use Rattle.wb_cache.specs.Changes.{put_slot, written_slot}
use Rattle.wb_cache.specs.Contents.{Slot}
use Rattle.wb_cache.specs.Lookup.{holds, set_of, way_of}
use Rattle.flush_view.specs.Coherence.{Coherent, IsClean}
use Rattle.flush_view.specs.Views.{byte_in, cached, over}
use Rattle.wb_cache.proofs.Ways.{Here, Place, Slots, There, has, holds-one, place, way-same, way-some}

-- the slot with the store in it
abbrev pub with_store : Entry → Slot → Slot
with_store e slot = written_slot (e.addr % 4) e.mask e.value slot

-- the cache after the drain of a store into a way of its set
abbrev pub drained : Shape → Entry → ℕ → Slots → Slots
drained shape e way cache = put_slot (set_of shape (e.addr / 4)) way (with_store e (cache (set_of shape (e.addr / 4)) way)) cache

with_store-holds : (shape : Shape) (e : Entry) (line : ℕ) (slot : Slot) → holds shape line (with_store e slot) ≡ holds shape line slot
unfolding written_slot
with_store-holds shape e line slot = refl

with_store-dirty : (e : Entry) (slot : Slot) → (with_store e slot).dirty ≡ true
unfolding written_slot
with_store-dirty e slot = refl

-- a byte of the store's line
with_store-byte : (e : Entry) (slot : Slot) (p : ℕ) → p / 16 ≡ e.addr / 4 → (with_store e slot).bytes (p % 16) ≡ over e p (slot.bytes (p % 16))
unfolding written_slot
with_store-byte e slot p h =
    let lane : p % 16 % 4 ≡ p % 4 = omega arith in
    let word : (p % 16 / 4 == e.addr % 4) ≡ (e.addr == p / 4) = grind (arith, nat_tests) in
    rw (lane, word) refl

-- a byte of another line
pub over-off : (e : Entry) (p x : ℕ) → (p / 16 ≡ e.addr / 4 → ⊥) → over e p x ≡ x
over-off e p x ne = grind (arith, nat_tests)

drained-holds : (shape : Shape) (e : Entry) (way : ℕ) (cache : Slots) (line s w : ℕ)
    → holds shape line (drained shape e way cache s w) ≡ holds shape line (cache s w)
drained-holds shape e way cache line s w = go (place (set_of shape (e.addr / 4)) way (with_store e (cache (set_of shape (e.addr / 4)) way)) cache s w)
  where
    go : Place (set_of shape (e.addr / 4)) way (with_store e (cache (set_of shape (e.addr / 4)) way)) cache s w
        → holds shape line (drained shape e way cache s w) ≡ holds shape line (cache s w)
    go (Here p q is) =
        ap (holds shape line) is ∙ with_store-holds shape e line (cache (set_of shape (e.addr / 4)) way)
        ∙ ap (holds shape line) (sym (ap (λ n. cache n w) p ∙ ap (cache (set_of shape (e.addr / 4))) q))
    go (There ne is) = ap (holds shape line) is

drained-way : (shape : Shape) (e : Entry) (way : ℕ) (cache : Slots) (line : ℕ)
    → way_of shape (drained shape e way cache) line ≡ way_of shape cache line
drained-way shape e way cache line =
    way-same shape (drained shape e way cache) cache line (λ w l. drained-holds shape e way cache line (set_of shape line) w)

-- the way where the byte's line is found
same_way : (v u : ℕ) → Some v ≡ Some u → v ≡ u
same_way v u e = cc

found_byte : (shape : Shape) (e : Entry) (way : ℕ) (cache : Slots) (p x w : ℕ) → way_of shape cache (e.addr / 4) ≡ Some way
    → way_of shape cache (p / 16) ≡ Some w → (drained shape e way cache (set_of shape (p / 16)) w).bytes (p % 16)
    ≡ over e p ((cache (set_of shape (p / 16)) w).bytes (p % 16))
found_byte shape e way cache p x w hit found =
    go (place (set_of shape (e.addr / 4)) way (with_store e (cache (set_of shape (e.addr / 4)) way)) cache (set_of shape (p / 16)) w)
  where
    here : set_of shape (p / 16) ≡ set_of shape (e.addr / 4) → w ≡ way → p / 16 ≡ e.addr / 4
    here s q =
        let a : has shape cache (p / 16) w ≡ true = (way-some shape cache (p / 16) w found).1 in
        let b : has shape cache (e.addr / 4) way ≡ true = (way-some shape cache (e.addr / 4) way hit).1 in
        let c : cache (set_of shape (p / 16)) w ≡ cache (set_of shape (e.addr / 4)) way = ap (λ n. cache n w) s ∙ ap (cache (set_of shape (e.addr / 4))) q in
        holds-one shape (p / 16) (e.addr / 4) (cache (set_of shape (e.addr / 4)) way) s (ap (holds shape (p / 16)) (sym c) ∙ a) b

    go : Place (set_of shape (e.addr / 4)) way (with_store e (cache (set_of shape (e.addr / 4)) way)) cache (set_of shape (p / 16)) w
        → (drained shape e way cache (set_of shape (p / 16)) w).bytes (p % 16) ≡ over e p ((cache (set_of shape (p / 16)) w).bytes (p % 16))
    go (Here s q is) =
        ap (λ (slot : Slot). slot.bytes (p % 16)) is
        ∙ with_store-byte e (cache (set_of shape (e.addr / 4)) way) p (here s q)
        ∙ ap (λ (slot : Slot). over e p (slot.bytes (p % 16))) (sym (ap (λ n. cache n w) s ∙ ap (cache (set_of shape (e.addr / 4))) q))
    go (There ne is) =
        ap (λ (slot : Slot). slot.bytes (p % 16)) is
        ∙ sym (over-off e p _ (λ h. ne (ap (set_of shape) h) (same_way w way (sym found ∙ ap (way_of shape cache) h ∙ hit))))

pub drained-cached : (shape : Shape) (ram : ℕ → ℕ) (e : Entry) (way : ℕ) (cache : Slots) (p : ℕ) → way_of shape cache (e.addr / 4) ≡ Some way
    → cached shape ram (drained shape e way cache) p ≡ over e p (cached shape ram cache p)
unfolding cached
drained-cached shape ram e way cache p hit =
    ap (λ o. byte_in o (drained shape e way cache (set_of shape (p / 16))) p (ram p)) (drained-way shape e way cache (p / 16))
    ∙ go (way_of shape cache (p / 16)) refl
  where
    none_some : {v : ℕ} → None ≡ Some v → ⊥
    none_some e = absurd cc

    go : (o : Option ℕ) → way_of shape cache (p / 16) ≡ o → byte_in o (drained shape e way cache (set_of shape (p / 16))) p (ram p)
        ≡ over e p (byte_in o (cache (set_of shape (p / 16))) p (ram p))
    go (Some w) found = found_byte shape e way cache p 0 w hit found
    go None miss = sym (over-off e p (ram p) (λ h. none_some (sym miss ∙ ap (way_of shape cache) h ∙ hit)))

drained-clean : (shape : Shape) (ram : ℕ → ℕ) (e : Entry) (way : ℕ) (cache : Slots) (line : ℕ) → IsClean shape ram cache line
    → IsClean shape ram (drained shape e way cache) line
drained-clean shape ram e way cache line clean w p l h dirty q =
    go (place (set_of shape (e.addr / 4)) way (with_store e (cache (set_of shape (e.addr / 4)) way)) cache (set_of shape line) w)
  where
    go : Place (set_of shape (e.addr / 4)) way (with_store e (cache (set_of shape (e.addr / 4)) way)) cache (set_of shape line) w
        → (drained shape e way cache (set_of shape line) w).bytes (p % 16) ≡ ram p
    go (Here s t is) =
        absurd (true≢false (sym (with_store-dirty e (cache (set_of shape (e.addr / 4)) way)) ∙ ap (λ (slot : Slot). slot.dirty) (sym is) ∙ dirty))
    go (There ne is) =
        ap (λ (slot : Slot). slot.bytes (p % 16)) is
        ∙ clean w p l (ap (holds shape line) (sym is) ∙ h) (ap (λ (slot : Slot). slot.dirty) (sym is) ∙ dirty) q

pub drained-coherent : (shape : Shape) (out : ℕ → Bool) (ram : ℕ → ℕ) (e : Entry) (way : ℕ) (cache : Slots) → Coherent shape out ram cache
    → Coherent shape out ram (drained shape e way cache)
drained-coherent shape out ram e way cache coherent = record {
  single =
      λ line o v w l k h i. coherent.single line o v w l k (sym (drained-holds shape e way cache line (set_of shape line) v) ∙ h)
      (sym (drained-holds shape e way cache line (set_of shape line) w) ∙ i);
  clean = λ line o. drained-clean shape ram e way cache line (coherent.clean line o);
}
