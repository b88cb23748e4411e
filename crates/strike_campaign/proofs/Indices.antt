-- The row of all bits of a machine.
use Rattle.std.proofs.Common.{◌≡◌, ◌+◌, ◌^◌, ◌<◌, ◌≤◌, ℕ, List, [], ◌∷◌, refl, sym, ap, ◌∙◌, arith}
use Rattle.std.specs.Prelude.{sum_by}
use Rattle.std.proofs.lemmas.List.Sums.{sum_by-cons, sum_by-le-sum_by}
use Rattle.std.proofs.lemmas.Option.{same_Some}
use Rattle.bit_field.specs.Layouts.{bits_of}
use Rattle.bit_field.specs.Shapes.{IsPlaceIn, IsShape}
use Rattle.bit_field.specs.declared.places.Place.{Place}
use Rattle.bit_field.specs.declared.places.Structure.{Structure}
use Rattle.bit_field.specs.declared.shapes.Shape.{Shape}
use Rattle.bit_field.proofs.Located.{located_within}
use Rattle.ace_class.specs.Counts.{structures}
use Rattle.ace_class.proofs.Sizes.{bits_in_most}
use Rattle.strike_campaign.specs.Places.{IsPlaceAt, all_bits, width_in}

bits-sum : {A : Type 0} (width : A → ℕ) (xs : List A) → sum_by width xs ≡ bits_of width xs
bits-sum width [] = refl
bits-sum width (x ∷ xs) = sum_by-cons width x xs ∙ ap (λ n. width x + n) (bits-sum width xs)

pub all_bits_sum : (shape : Shape) → sum_by (width_in shape) structures ≡ all_bits shape
all_bits_sum shape = bits-sum (width_in shape) structures

pub all_bits_fit : (shape : Shape) → IsShape shape → sum_by (width_in shape) structures < 2 ^ 32
all_bits_fit shape h =
    let most : sum_by (width_in shape) structures ≤ 1048576 =
    sum_by-le-sum_by (width_in shape) (λ s. 65536) structures (λ s. bits_in_most s shape h) in
    omega (arith, most)

-- the program counter has some
pub some_bits : (shape : Shape) → 0 < all_bits shape
some_bits shape = omega arith

pub inside : (shape : Shape) (index : ℕ) (place : Place) → IsPlaceAt shape index place → IsPlaceIn shape place
inside shape index place h = located_within (width_in shape) structures index (place.structure, place.bit) h

-- one place stands at an index
pub one_place : (shape : Shape) (index : ℕ) (p q : Place) → IsPlaceAt shape index p → IsPlaceAt shape index q → p ≡ q
one_place shape index p q hp hq =
    let P : Structure × ℕ → Place = λ (x : Structure × ℕ). record { structure = x.0; bit = x.1 } in
    ap P (same_Some (p.structure, p.bit) (q.structure, q.bit) (sym hp ∙ hq))
