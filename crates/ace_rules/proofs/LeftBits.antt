-- How many bits of a byte a rule leaves.
use Rattle.std.proofs.Common.{◌≡◌, ℕ, ◌<◌, [], ◌∷◌, Bool, true, false, not, refl, sym, ap, ◌∙◌, arith}
use Rattle.std.specs.Int.Count.{ones}
use Rattle.std.specs.Prelude.{bit_and, bit_xor}
use Rattle.std.proofs.lemmas.Bool.Decides.{nat_tests}
use Rattle.std.proofs.lemmas.Nat.Bits.{bit_at-lt, bit_at_and, bit_at_ones, bit_at_xor}
use Rattle.bit_field.specs.Layouts.{number_of}
use Rattle.ace_rules.specs.AceGroups.{is_ace}
use Rattle.ace_rules.specs.RuleMasks.{first_of, is_set}
use Rattle.ace_rules.specs.Sums.{count_below}
use Rattle.ace_rules.specs.declared.tally.RuleMask.{RuleMask}
use Rattle.ace_rules.specs.declared.tally_pending.TheConstants.{BYTE_MASK}
use Rattle.ace_rules.proofs.FirstMasks.{rest-fits}
use Rattle.ace_rules.proofs.Popcounts.{ones-count}
use Rattle.ace_rules.proofs.Sums.{sum_below-same}

ace-left : (found : RuleMask) (k : ℕ) (t : Bool) → is_set found.mask k ≡ t → is_ace (first_of (found ∷ []) k) ≡ not t
ace-left found k true e = rw e refl
ace-left found k false e = rw e refl

set-left : (mask k : ℕ) → k < 8 → is_set (bit_xor BYTE_MASK (bit_and BYTE_MASK mask)) k ≡ not (is_set mask k)
set-left mask k l =
    let inside = bit_at_ones 8 k l in
    let other = bit_at_xor BYTE_MASK (bit_and BYTE_MASK mask) k in
    let both = bit_at_and BYTE_MASK mask k in
    let low = bit_at-lt mask k in
    grind (arith, nat_tests)

pub left_counted : (found : RuleMask) → ones (bit_xor BYTE_MASK (bit_and BYTE_MASK found.mask)) ≡ count_below 8 (λ k. is_ace (first_of (found ∷ []) k))
left_counted found =
    ones-count 8 (bit_xor BYTE_MASK (bit_and BYTE_MASK found.mask)) (rest-fits 8 255 found.mask (omega arith))
    ∙ sum_below-same 8 _ _ (λ j l. ap number_of (set-left found.mask j l ∙ sym (ace-left found j (is_set found.mask j) refl)))
