-- Reads of bytes of which a word was written.
use Rattle.std.proofs.Common.{◌≡◌, ◌≢◌, ◌⊎◌, inl, inr, ℕ, zero, suc, ◌+◌, ◌*◌, ◌/◌, ◌%◌, ◌<◌, ◌≤◌, Bool, true, false, List, length, get_or, cond, arith, ap}
use Rattle.std.proofs.Common.{refl, ◌∙◌}
use Rattle.std.proofs.Math.ListN.{set}
use Rattle.std.specs.Prelude.{slice_index, ◌==◌, ◌&&◌}
use Rattle.std.proofs.lemmas.Bool.{cases_eq, cases_lt}
use Rattle.std.proofs.lemmas.Bool.Decides.{nat_tests}
use Rattle.std.proofs.lemmas.List.{get_or-set_same, get_or-set_other}
use Rattle.bit_field.specs.Lanes.{has_lane, lane_byte}
use Rattle.wb_cache.specs.Access.{put_lane, put_word}
use Rattle.wb_cache.proofs.Lengths.{length-put_lane}

same_by : (b : Bool) (bytes : List ℕ) (i v : ℕ) → i < length bytes → get_or (cond b (set bytes i v) bytes) i 0 ≡ cond b v (get_or bytes i 0)
same_by true bytes i v h = get_or-set_same bytes i v 0 h
same_by false bytes i v h = refl

other_by : (b : Bool) (bytes : List ℕ) (i j v : ℕ) → j ≢ i → get_or (cond b (set bytes i v) bytes) j 0 ≡ get_or bytes j 0
other_by true bytes i j v ne = get_or-set_other bytes i j v 0 ne
other_by false bytes i j v ne = refl

lane-same : (place mask value lane : ℕ) (bytes : List ℕ) → place + lane < length bytes
    → slice_index (put_lane place mask value lane bytes) (place + lane) ≡ cond (has_lane mask lane) (lane_byte value lane) (slice_index bytes (place + lane))
lane-same place mask value lane bytes h = same_by (has_lane mask lane) bytes (place + lane) (lane_byte value lane) h

lane-other : (place mask value lane j : ℕ) (bytes : List ℕ) → j ≢ place + lane → slice_index (put_lane place mask value lane bytes) j ≡ slice_index bytes j
lane-other place mask value lane j bytes ne = other_by (has_lane mask lane) bytes (place + lane) j (lane_byte value lane) ne

-- outside the word
pub put_word-off : (place mask value j : ℕ) (bytes : List ℕ) → (j < place) ⊎ (place + 4 ≤ j)
    → slice_index (put_word place mask value bytes) j ≡ slice_index bytes j
unfolding put_word
put_word-off place mask value j bytes off =
    lane-other place mask value 3 j _ (λ e. outside 3 (omega arith) e)
    ∙ lane-other place mask value 2 j _ (λ e. outside 2 (omega arith) e)
    ∙ lane-other place mask value 1 j _ (λ e. outside 1 (omega arith) e)
    ∙ lane-other place mask value 0 j bytes (λ e. outside 0 (omega arith) e)
  where
    outside : (lane : ℕ) → lane < 4 → j ≡ place + lane → ⊥
    outside lane l e = elim off [ inl m ↦ omega arith | inr m ↦ omega arith ]

-- in a lane of the word
pub put_word-lane : (place mask value lane : ℕ) (bytes : List ℕ) → lane < 4 → place + 4 ≤ length bytes
    → slice_index (put_word place mask value bytes) (place + lane) ≡ cond (has_lane mask lane) (lane_byte value lane) (slice_index bytes (place + lane))
unfolding put_word
put_word-lane place mask value zero bytes l h =
    lane-other place mask value 3 (place + 0) _ (λ e. omega arith)
    ∙ lane-other place mask value 2 (place + 0) _ (λ e. omega arith)
    ∙ lane-other place mask value 1 (place + 0) _ (λ e. omega arith)
    ∙ lane-same place mask value 0 bytes (omega arith)
put_word-lane place mask value (suc zero) bytes l h =
    lane-other place mask value 3 (place + 1) _ (λ e. omega arith)
    ∙ lane-other place mask value 2 (place + 1) _ (λ e. omega arith)
    ∙ lane-same place mask value 1 (put_lane place mask value 0 bytes) (omega (arith, length-put_lane place mask value 0 bytes))
    ∙ ap (cond (has_lane mask 1) (lane_byte value 1)) (lane-other place mask value 0 (place + 1) bytes (λ e. omega arith))
put_word-lane place mask value (suc (suc zero)) bytes l h =
    lane-other place mask value 3 (place + 2) _ (λ e. omega arith)
    ∙ lane-same place mask value 2 (put_lane place mask value 1 (put_lane place mask value 0 bytes))
    (omega (arith, length-put_lane place mask value 0 bytes, length-put_lane place mask value 1 (put_lane place mask value 0 bytes)))
    ∙ ap (cond (has_lane mask 2) (lane_byte value 2))
    (lane-other place mask value 1 (place + 2) _ (λ e. omega arith) ∙ lane-other place mask value 0 (place + 2) bytes (λ e. omega arith))
put_word-lane place mask value (suc (suc (suc zero))) bytes l h =
    lane-same place mask value 3 (put_lane place mask value 2 (put_lane place mask value 1 (put_lane place mask value 0 bytes)))
    (omega (
      arith,
      length-put_lane place mask value 0 bytes,
      length-put_lane place mask value 1
          (put_lane place mask value 0 bytes),
      length-put_lane place mask value 2 (put_lane place mask value 1 (put_lane place mask value 0 bytes)),
    ))
    ∙ ap (cond (has_lane mask 3) (lane_byte value 3))
    (lane-other place mask value 2 (place + 3) _ (λ e. omega arith) ∙ lane-other place mask value 1 (place + 3) _ (λ e. omega arith)
    ∙ lane-other place mask value 0 (place + 3) bytes (λ e. omega arith))
put_word-lane place mask value (suc (suc (suc (suc lane)))) bytes l h = absurd (omega arith)

-- byte o of slot l, of which a word was written
pub put_word-here : (l word mask value o : ℕ) (bytes : List ℕ) → word < 4 → o < 16 → 16 * l + 16 ≤ length bytes
    → slice_index (put_word (16 * l + 4 * word) mask value bytes) (16 * l + o) ≡ cond (o / 4 == word && has_lane mask (o % 4)) (lane_byte value (o % 4))
    (slice_index bytes (16 * l + o))
put_word-here l word mask value o bytes w h long =
    elim (cases_eq (o / 4) word) [
      | inl e ↦
          let at : 16 * l + o ≡ 16 * l + 4 * word + o % 4 = omega arith in
          let lane : slice_index (put_word (16 * l + 4 * word) mask value bytes) (16 * l + 4 * word + o % 4) ≡ cond (has_lane mask (o % 4))
          (lane_byte value (o % 4)) (slice_index bytes (16 * l + 4 * word + o % 4)) =
          put_word-lane (16 * l + 4 * word) mask value (o % 4) bytes (omega arith) (omega arith) in
          rw (at) (lane ∙ grind (arith, nat_tests))
      | inr ne ↦ put_word-off (16 * l + 4 * word) mask value (16 * l + o) bytes
          (elim (cases_lt o (4 * word)) [ inl m ↦ inl (omega arith) | inr m ↦ inr (omega arith) ])
          ∙ grind (arith, nat_tests)
    ]

-- a byte of another slot
pub put_word-other : (l m word mask value o : ℕ) (bytes : List ℕ) → m ≢ l → word < 4 → o < 16
    → slice_index (put_word (16 * l + 4 * word) mask value bytes) (16 * m + o) ≡ slice_index bytes (16 * m + o)
put_word-other l m word mask value o bytes ne w h =
    put_word-off (16 * l + 4 * word) mask value (16 * m + o) bytes (elim (cases_lt m l) [ inl p ↦ inl (omega arith) | inr p ↦ inr (omega arith) ])
