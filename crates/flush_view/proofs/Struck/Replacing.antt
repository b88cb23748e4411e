-- Which slots may stand in place of which: a slot whose lines are in X, an invalid, a dirty, and a clean one.
use Rattle.std.proofs.Common.{◌≡◌, ◌⊎◌, inl, inr, ℕ, Bool, true, false, refl, ap, sym, ◌∙◌}
use Rattle.std.specs.Prelude.{◌==◌, ◌&&◌}
use Rattle.std.proofs.lemmas.Bool.{true≢false}
use Rattle.bit_field.specs.declared.shapes.Shape.{Shape}
use Rattle.wb_cache.specs.Contents.{Slot}
use Rattle.wb_cache.specs.Lookup.{holds, line_of, set_of, tag_of}
use Rattle.wb_cache.proofs.Lines.{line_from_parts}
use Rattle.flush_view.specs.Struck.{IsOut, Replaces}
use Rattle.wb_cache.proofs.Ways.{holds-tag}

-- the line that a slot of a set holds
pub held-line : (shape : Shape) (set line : ℕ) (slot : Slot) → set_of shape line ≡ set → holds shape line slot ≡ true
    → line ≡ line_of shape set slot.tag
held-line shape set line slot s h = line_from_parts shape.sets line set slot.tag s (sym (holds-tag shape line slot h))

-- so one line is all that has to be in X
pub line-out : (shape : Shape) (out : ℕ → Bool) (set : ℕ) (slot : Slot) → out (line_of shape set slot.tag) ≡ true → IsOut shape out set slot
line-out shape out set slot o line s h = ap out (held-line shape set line slot s h) ∙ o

-- and nothing where the slot is invalid
pub invalid-out : (shape : Shape) (out : ℕ → Bool) (set : ℕ) (slot : Slot) → slot.valid ≡ false → IsOut shape out set slot
invalid-out shape out set slot invalid line s h = go slot.valid invalid h
  where
    go : (v : Bool) → v ≡ false → (v && slot.tag == tag_of shape line) ≡ true → out line ≡ true
    go true e k = absurd cc
    go false e k = absurd cc

module _ (shape : Shape) (out : ℕ → Bool) (set : ℕ) (old : Slot) where
  not_in : (slot : Slot) → IsOut shape out set slot → (line : ℕ) → set_of shape line ≡ set → out line ≡ false → holds shape line slot ≡ true → ⊥
  not_in slot is line s o h = true≢false (sym (is line s h) ∙ o)

  clean-or-out : (old.dirty ≡ false) ⊎ IsOut shape out set old → (line : ℕ) → set_of shape line ≡ set → out line ≡ false → holds shape line old ≡ true
      → old.dirty ≡ false
  clean-or-out (inl clean) line s o h = clean
  clean-or-out (inr is) line s o h = absurd (not_in old is line s o h)

  -- a slot whose lines are in X
  pub replaces-out : (new : Slot) → IsOut shape out set new → (old.dirty ≡ false) ⊎ IsOut shape out set old → Replaces shape out set old new
  replaces-out new is was = record {
    held = λ line s o h. absurd (not_in new is line s o h);
    bytes = λ line b s o h below. absurd (not_in new is line s o h);
    clean = λ line s o h clean. absurd (not_in new is line s o h);
    gone = λ line s o h none. clean-or-out was line s o h;
  }

  -- the same slot, invalid
  pub replaces-invalid : (old.dirty ≡ false) ⊎ IsOut shape out set old → Replaces shape out set old (record old { valid = false })
  replaces-invalid was = replaces-out (record old { valid = false }) (invalid-out shape out set (record old { valid = false }) refl) was

  -- the same slot, dirty
  pub replaces-dirty : Replaces shape out set old (record old { dirty = true })
  replaces-dirty = record {
    held = λ line s o h. h;
    bytes = λ line b s o h below. refl;
    clean = λ line s o h clean. absurd (true≢false clean);
    gone = λ line s o h none. absurd (true≢false (sym h ∙ none));
  }

  -- the same slot, clean
  pub replaces-clean : IsOut shape out set old → Replaces shape out set old (record old { dirty = false })
  replaces-clean is = replaces-out (record old { dirty = false }) is (inr is)
