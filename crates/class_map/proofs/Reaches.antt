-- How far a later line reaches.
use Rattle.std.proofs.Common.{◌≡◌, ℕ, ◌+◌, ◌-◌, ◌*◌, ◌^◌, ◌<◌, ◌≤◌, true, Option, None, Some, IfSome, arith}
use Rattle.std.specs.Prelude.{◌==◌, nat_le, nat_lt, if◌then◌else◌}
use Rattle.std.proofs.lemmas.Bool.Decides.{nat_tests}
use Rattle.bit_field.specs.Shapes.{IsShape}
use Rattle.bit_field.specs.declared.shapes.Shape.{Shape}
use Rattle.ace_class.specs.Counts.{place_of}
use Rattle.ace_class.proofs.Places.{place_most}
use Rattle.ace_class.proofs.Sizes.{bits_in_most}
use Rattle.class_map.specs.Bounds.{IsBounded, IsFurther, furthest, reach}
use Rattle.class_map.specs.Judging.{IsSensible}
use Rattle.class_map.specs.Lines.{pairs_of}
use Rattle.class_map.specs.declared.map_line.MapLine.{MapLine}
use Rattle.class_map.specs.declared.progress.Progress.{Progress}

further : (a b bit other to from until : ℕ) → (if a == b then (if bit == other then nat_le to from else nat_lt bit other) else nat_lt a b) ≡ true → from < until
    → bit < 2 ^ 17 → other < 2 ^ 17 → to < 2 ^ 32 → until < 2 ^ 32 → (a * 2 ^ 17 + bit) * 2 ^ 32 + to + (until - from) ≤ (b * 2 ^ 17 + other) * 2 ^ 32 + until
further a b bit other to from until h some x y z w = grind (arith, nat_tests)

-- a line reaches further than the one before by its pairs
pub reaches : (before : Option MapLine) (line : MapLine) → IsFurther before line → IfSome before (λ l. l.place.bit < 2 ^ 17) → IfSome before (λ l. l.to < 2 ^ 32)
    → reach before + pairs_of line ≤ reach (Some line)
reaches None line h bit to = omega arith
reaches (Some l) line h bit to =
    further (place_of l.place.structure) (place_of line.place.structure) l.place.bit line.place.bit l.to line.from line.to h.follows h.some bit h.bit to h.to

pub reach-most : (before : Option MapLine) → IfSome before (λ l. l.place.bit < 2 ^ 17) → IfSome before (λ l. l.to < 2 ^ 32) → reach before < furthest
reach-most None bit to = omega arith
reach-most (Some l) bit to = let most = place_most l.place.structure in omega (arith, most, bit, to)

-- so lines and pairs are few
pub few : (p : Progress) → IsBounded p → (p.seen < furthest + 3) × (p.pairs < furthest)
few p h = let most = reach-most p.before h.bit h.to in (omega (arith, most, h.seen), omega (arith, most, h.pairs))

-- a line that fits to its place
pub sensible-further : (shape : Shape) (cycles : ℕ) (before : Option MapLine) (line : MapLine) → IsShape shape → cycles < 2 ^ 32
    → IsSensible shape cycles before line → IsFurther before line
sensible-further shape cycles before line fits short h = record {
  follows = h.follows;
  some = h.in_run.some;
  bit = (let most = bits_in_most line.place.structure shape fits in let inside = h.in_run.place in omega (arith, most, inside));
  to = (let within = h.in_run.within in omega (arith, within, short));
}
