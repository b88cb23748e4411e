-- The bytes that two actions put, one after the other.
use Rattle.std.proofs.Common.{◌≡◌, ℕ, [], refl, arith}
use Rattle.std.specs.Prelude.{Option, Some, None}
use Rattle.rv_isa.specs.Instruction.{with_byte}
use Rattle.eval_mask.specs.Aftermaths.{output_after}
use Rattle.eval_mask.specs.Compared.{first_of, second_of}
use Rattle.eval_mask.specs.declared.completing.Aftermath.{Aftermath}

-- the same bytes where the first that is put and the second are the same
puts_same : (a b c d : Option ℕ) → first_of a b ≡ first_of c d → second_of a b ≡ second_of c d → with_byte (with_byte [] a) b ≡ with_byte (with_byte [] c) d
puts_same None None None None e f = refl
puts_same None None None (Some d) e f = grind arith
puts_same None None (Some c) None e f = grind arith
puts_same None None (Some c) (Some d) e f = grind arith
puts_same None (Some b) None None e f = grind arith
puts_same None (Some b) None (Some d) e f = grind arith
puts_same None (Some b) (Some c) None e f = grind arith
puts_same None (Some b) (Some c) (Some d) e f = grind arith
puts_same (Some a) None None None e f = grind arith
puts_same (Some a) None None (Some d) e f = grind arith
puts_same (Some a) None (Some c) None e f = grind arith
puts_same (Some a) None (Some c) (Some d) e f = grind arith
puts_same (Some a) (Some b) None None e f = grind arith
puts_same (Some a) (Some b) None (Some d) e f = grind arith
puts_same (Some a) (Some b) (Some c) None e f = grind arith
puts_same (Some a) (Some b) (Some c) (Some d) e f = grind arith

puts_told : (a b c d : Option ℕ) → with_byte (with_byte [] a) b ≡ with_byte (with_byte [] c) d
    → (first_of a b ≡ first_of c d) × (second_of a b ≡ second_of c d)
puts_told None None None None e = (refl, refl)
puts_told None None None (Some d) e = grind arith
puts_told None None (Some c) None e = grind arith
puts_told None None (Some c) (Some d) e = grind arith
puts_told None (Some b) None None e = grind arith
puts_told None (Some b) None (Some d) e = grind arith
puts_told None (Some b) (Some c) None e = grind arith
puts_told None (Some b) (Some c) (Some d) e = grind arith
puts_told (Some a) None None None e = grind arith
puts_told (Some a) None None (Some d) e = grind arith
puts_told (Some a) None (Some c) None e = grind arith
puts_told (Some a) None (Some c) (Some d) e = grind arith
puts_told (Some a) (Some b) None None e = grind arith
puts_told (Some a) (Some b) None (Some d) e = grind arith
puts_told (Some a) (Some b) (Some c) None e = grind arith
puts_told (Some a) (Some b) (Some c) (Some d) e = grind arith

pub output_same : (x y : Aftermath) → first_of x.below.put x.above.put ≡ first_of y.below.put y.above.put
    → second_of x.below.put x.above.put ≡ second_of y.below.put y.above.put → output_after x ≡ output_after y
output_same x y e f = puts_same x.below.put x.above.put y.below.put y.above.put e f

pub output_told : (x y : Aftermath) → output_after x ≡ output_after y
    → (first_of x.below.put x.above.put ≡ first_of y.below.put y.above.put) × (second_of x.below.put x.above.put ≡ second_of y.below.put y.above.put)
output_told x y e = puts_told x.below.put x.above.put y.below.put y.above.put e

pub ruleset output_exactly = (output_same, output_told)
