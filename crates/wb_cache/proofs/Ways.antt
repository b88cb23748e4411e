-- The way that holds a line, in a cache as slots by set and way, and after one slot of it is replaced.
use Rattle.std.proofs.Common.{◌≡◌, ℕ, ◌<◌, Bool, true, false, arith, refl, sym, ◌∙◌}
use Rattle.std.specs.Prelude.{Some, None, ◌==◌, ◌&&◌}
use Rattle.std.proofs.lemmas.Bool.Decides.{nat_tests}
use Rattle.bit_field.specs.declared.shapes.Shape.{Shape}
use Rattle.wb_cache.specs.Changes.{put_slot}
use Rattle.wb_cache.specs.Contents.{Slot}
use Rattle.wb_cache.specs.Lookup.{holds, line_of, set_of, tag_of, way_of}
use Rattle.wb_cache.proofs.Find.{first_below-none, first_below-nothing, first_below-only, first_below-same, first_below-some}
use Rattle.wb_cache.proofs.Lines.{line_from_parts}

abbrev pub Slots : Type 0
Slots = ℕ → ℕ → Slot

-- whether a way holds a line
abbrev pub has : Shape → Slots → ℕ → ℕ → Bool
has shape cache line w = holds shape line (cache (set_of shape line) w)

pub way-same : (shape : Shape) (cache other : Slots) (line : ℕ) → ((w : ℕ) → w < shape.ways → has shape cache line w ≡ has shape other line w)
    → way_of shape cache line ≡ way_of shape other line
unfolding way_of
way-same shape cache other line same = first_below-same shape.ways (has shape cache line) (has shape other line) same

pub way-some : (shape : Shape) (cache : Slots) (line w : ℕ) → way_of shape cache line ≡ Some w → (w < shape.ways) × (has shape cache line w ≡ true)
unfolding way_of
way-some shape cache line w e = let first = first_below-some shape.ways w (has shape cache line) e in (first.below, first.passes)

pub way-none : (shape : Shape) (cache : Slots) (line : ℕ) → way_of shape cache line ≡ None → (w : ℕ) → w < shape.ways → has shape cache line w ≡ false
unfolding way_of
way-none shape cache line e = first_below-none shape.ways (has shape cache line) e

pub way-nothing : (shape : Shape) (cache : Slots) (line : ℕ) → ((w : ℕ) → w < shape.ways → has shape cache line w ≡ false) → way_of shape cache line ≡ None
unfolding way_of
way-nothing shape cache line fails = first_below-nothing shape.ways (has shape cache line) fails

pub way-only : (shape : Shape) (cache : Slots) (line w : ℕ) → w < shape.ways → has shape cache line w ≡ true
    → ((v : ℕ) → v < shape.ways → has shape cache line v ≡ true → v ≡ w) → way_of shape cache line ≡ Some w
unfolding way_of
way-only shape cache line w l e only = first_below-only shape.ways w (has shape cache line) l e only

-- lines of one set with one tag are one line
pub same_line : (shape : Shape) (line other : ℕ) → set_of shape line ≡ set_of shape other → tag_of shape line ≡ tag_of shape other → line ≡ other
same_line shape line other s t =
    let a : line ≡ line_of shape (set_of shape line) (tag_of shape line) = line_from_parts shape.sets line (set_of shape line) (tag_of shape line) refl refl in
    let b : other ≡ line_of shape (set_of shape other) (tag_of shape other) =
    line_from_parts shape.sets other (set_of shape other) (tag_of shape other) refl refl in
    cc

pub holds-tag : (shape : Shape) (line : ℕ) (slot : Slot) → holds shape line slot ≡ true → slot.tag ≡ tag_of shape line
holds-tag shape line slot h = grind (arith, nat_tests)

-- one slot holds lines of one tag alone
pub holds-one : (shape : Shape) (line other : ℕ) (slot : Slot) → set_of shape line ≡ set_of shape other → holds shape line slot ≡ true
    → holds shape other slot ≡ true → line ≡ other
holds-one shape line other slot s h k = same_line shape line other s (sym (holds-tag shape line slot h) ∙ holds-tag shape other slot k)

pub holds-valid : (shape : Shape) (line : ℕ) (slot : Slot) → holds shape line slot ≡ true → slot.valid ≡ true
holds-valid shape line slot h = grind (arith, nat_tests)

-- a slot that was found is valid
pub found-valid : (shape : Shape) (cache : Slots) (line w : ℕ) → way_of shape cache line ≡ Some w → (cache (set_of shape line) w).valid ≡ true
found-valid shape cache line w h = holds-valid shape line (cache (set_of shape line) w) (way-some shape cache line w h).1

-- a slot of the changed cache is the new one, or the old one of another place
pub data Place (set way : ℕ) (slot : Slot) (cache : Slots) (s w : ℕ) : Type 0 where
  Here : s ≡ set → w ≡ way → put_slot set way slot cache s w ≡ slot → Place set way slot cache s w
  There : ((s ≡ set) → (w ≡ way) → ⊥) → put_slot set way slot cache s w ≡ cache s w → Place set way slot cache s w

pub place : (set way : ℕ) (slot : Slot) (cache : Slots) (s w : ℕ) → Place set way slot cache s w
place set way slot cache s w = go (s == set && w == way) refl
  where
    go : (b : Bool) → (s == set && w == way) ≡ b → Place set way slot cache s w
    go true e = Here (grind (arith, nat_tests)) (grind (arith, nat_tests)) (grind (arith, nat_tests))
    go false e = There (λ p q. grind (arith, nat_tests)) (grind (arith, nat_tests))
