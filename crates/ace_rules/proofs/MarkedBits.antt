-- Masks that mark the bits of some fields.
use Rattle.std.proofs.Common.{◌≡◌, ℕ, ◌<◌, ◌&&◌, Bool, true, false, refl, ap, ◌∙◌, arith}
use Rattle.std.specs.Prelude.{Option, Some, None, if◌then◌else◌}
use Rattle.std.proofs.lemmas.Bool.{agree_below, agree_below_at}
use Rattle.std.proofs.lemmas.Nat.Bits.{bit_at-zero}
use Rattle.std.proofs.lemmas.Bool.Decides.{nat_tests}
use Rattle.ace_rules.specs.RuleMasks.{is_set}

-- ---- the bits of the fields that a test names

abbrev pub in_field : {F : Type 0} → (F → Bool) → Option (F × ℕ) → Bool
in_field test None = false
in_field test (Some place) = test place.0

-- a mask that marks them has the bit of a field by the test
pub marks : {F : Type 0} (test : F → Bool) (field_of : ℕ → Option (F × ℕ)) (f : ℕ → Bool) (n : ℕ) → agree_below f (λ k. in_field test (field_of k)) n ≡ true
    → (k : ℕ) (place : F × ℕ) → k < n → field_of k ≡ Some place → f k ≡ test place.0
marks test field_of f n tried k place l at = agree_below_at f (λ i. in_field test (field_of i)) n k tried l ∙ ap (in_field test) at

-- ---- a mask where a test holds

pub when-set : (b : Bool) (mask k : ℕ) → is_set (if b then mask else 0) k ≡ (b && is_set mask k)
when-set true mask k = refl
when-set false mask k = let z = bit_at-zero k in grind (arith, nat_tests)
