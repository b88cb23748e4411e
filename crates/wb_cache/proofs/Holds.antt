-- When a slot holds a line.
use Rattle.std.proofs.Common.{◌≡◌, ℕ, true, arith}
use Rattle.std.proofs.lemmas.Bool.Decides.{nat_tests}
use Rattle.bit_field.specs.declared.shapes.Shape.{Shape}
use Rattle.wb_cache.specs.Contents.{Slot}
use Rattle.wb_cache.specs.Lookup.{holds, tag_of}

pub holds-from : (shape : Shape) (line : ℕ) (slot : Slot) → slot.valid ≡ true → slot.tag ≡ tag_of shape line → holds shape line slot ≡ true
holds-from shape line slot v t = grind (arith, nat_tests)
