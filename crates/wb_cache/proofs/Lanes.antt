-- The lanes of a word of a slot.
use Rattle.std.proofs.Common.{◌≡◌, ℕ, zero, suc, ◌+◌, ◌*◌, ◌<◌, List, [], ◌∷◌, get_or, arith, ap, refl, ◌∙◌}
use Rattle.std.specs.Prelude.{slice_index}
use Rattle.std.proofs.lemmas.Nat.{le_bytes_4}
use Rattle.bit_field.specs.Lanes.{lane_byte}
use Rattle.wb_cache.specs.Access.{word_at}
use Rattle.wb_cache.specs.Contents.{Slot}

four_below : (a b c d i : ℕ) → a < 256 → b < 256 → c < 256 → d < 256 → get_or (a ∷ b ∷ c ∷ d ∷ []) i 0 < 256
four_below a b c d zero p q r s = p
four_below a b c d (suc zero) p q r s = q
four_below a b c d (suc (suc zero)) p q r s = r
four_below a b c d (suc (suc (suc zero))) p q r s = s
four_below a b c d (suc (suc (suc (suc i)))) p q r s = omega arith

-- lane l of word w is byte 4 w + l
pub lane-word_at : (slot : Slot) (word lane : ℕ) → ((o : ℕ) → slot.bytes o < 256) → lane < 4 → lane_byte (word_at slot word) lane ≡ slot.bytes (4 * word + lane)
unfolding word_at
lane-word_at slot word lane bytes h =
    ap (λ (bs : List ℕ). slice_index bs lane)
    (le_bytes_4 (slot.bytes (4 * word) ∷ slot.bytes (4 * word + 1) ∷ slot.bytes (4 * word + 2) ∷ slot.bytes (4 * word + 3) ∷ []) _ refl
    (λ i. four_below _ _ _ _ i (bytes (4 * word)) (bytes (4 * word + 1)) (bytes (4 * word + 2)) (bytes (4 * word + 3))) refl)
    ∙ pick lane h
  where
    pick : (lane : ℕ) → lane < 4
        → slice_index (slot.bytes (4 * word) ∷ slot.bytes (4 * word + 1) ∷ slot.bytes (4 * word + 2) ∷ slot.bytes (4 * word + 3) ∷ []) lane ≡ slot.bytes
        (4 * word + lane)
    pick zero l = ap slot.bytes (omega arith)
    pick (suc zero) l = refl
    pick (suc (suc zero)) l = refl
    pick (suc (suc (suc zero))) l = refl
    pick (suc (suc (suc (suc n)))) l = absurd (omega arith)
