-- The lanes that a load takes of its word.
use Rattle.std.proofs.Common.{◌≡◌, ℕ, ◌%◌, ◌<◌, true, ◌∙◌, ap, arith}
use Rattle.std.specs.Prelude.{◌==◌, if◌then◌else◌}
use Rattle.std.proofs.lemmas.Bool.Decides.{nat_tests}
use Rattle.rv_table.specs.Accesses.{accesses, byte_of, lane_mask, load_size}
use Rattle.rv_table.specs.declared.operation.LoadKind.{LoadKind}
use Rattle.rv_table.proofs.Loads.{same_word}
use Rattle.rv_table.proofs.Stores.{load_mask-bit}
use Rattle.bit_field.specs.Lanes.{has_lane, lane_byte}

-- a lane's byte of a word is that byte of the number
pub lane-byte : (value lane : ℕ) → lane < 4 → lane_byte value lane ≡ byte_of value lane
unfolding byte_of
lane-byte value lane h = grind (arith, nat_tests)

-- a lane that is accessed is named by the mask
pub named-lane : (kind : LoadKind) (x p : ℕ) → accesses (load_size kind) x p ≡ true → has_lane (lane_mask (load_size kind) x) (p % 4) ≡ true
named-lane kind x p a = ap (λ n. n == 1) (load_mask-bit kind x p (same_word kind x p a) ∙ ap (λ b. if b then 1 else 0) a)
