-- A victim and a way that was found are ways of the shape.
use Rattle.std.proofs.Common.{◌≡◌, ◌⊎◌, inl, inr, ℕ, ◌+◌, ◌<◌, Bool, true, false, not, cond, List, arith, refl}
use Rattle.std.specs.Prelude.{Option, Some, None, ◌==◌}
use Rattle.bit_field.specs.Layouts.{number_of}
use Rattle.bit_field.specs.Shapes.{IsShape}
use Rattle.bit_field.specs.declared.shapes.Shape.{Shape}
use Rattle.bit_field.proofs.Flags.{number_of_is_bit}
use Rattle.wb_cache.specs.Contents.{Slot}
use Rattle.wb_cache.specs.Lookup.{way_of, first_below, holds, set_of}
use Rattle.wb_cache.specs.Replacement.{victim, first_invalid, replaced, way_or}
use Rattle.wb_cache.proofs.Find.{first_below-some}

chosen : (b x y : Bool) → cond b (2 + number_of x) (number_of y) < 4
chosen true x y = omega (arith, number_of_is_bit x)
chosen false x y = omega (arith, number_of_is_bit y)

replaced-by : (ways : ℕ) (a b d e : Bool) → (ways ≡ 1) ⊎ (ways ≡ 2) ⊎ (ways ≡ 4)
    → cond (ways == 1) 0 (cond (ways == 2) (number_of a) (cond b (2 + number_of d) (number_of e))) < ways
replaced-by ways a b d e (inl q) = rw q (omega arith)
replaced-by ways a b d e (inr (inl q)) = rw q (number_of_is_bit a)
replaced-by ways a b d e (inr (inr q)) = rw q (chosen b d e)

pub replaced-below : (shape : Shape) (nodes : List Bool) (set : ℕ) → IsShape shape → replaced shape nodes set < shape.ways
unfolding replaced
replaced-below shape nodes set is = replaced-by shape.ways _ _ _ _ is.ways

or_below : (n other : ℕ) (test : ℕ → Bool) (found : Option ℕ) → first_below n test ≡ found → other < n → way_or found other < n
or_below n other test (Some w) e h = (first_below-some n w test e).below
or_below n other test None e h = h

pub victim-below : (shape : Shape) (cache : ℕ → ℕ → Slot) (nodes : List Bool) (set : ℕ) → IsShape shape → victim shape cache nodes set < shape.ways
unfolding victim first_invalid
victim-below shape cache nodes set is = or_below shape.ways (replaced shape nodes set) (λ w. not (cache set w).valid) _ refl (replaced-below shape nodes set is)

pub way_of-below : (shape : Shape) (cache : ℕ → ℕ → Slot) (line way : ℕ) → way_of shape cache line ≡ Some way → way < shape.ways
unfolding way_of
way_of-below shape cache line way h = (first_below-some shape.ways way (λ w. holds shape line (cache (set_of shape line) w)) h).below
