-- Structures are told by their place in the order of a report.
use Rattle.std.proofs.Common.{◌≡◌, ℕ, ◌<◌, refl, sym, ap, ◌∙◌, arith}
use Rattle.std.specs.Prelude.{slice_index_or}
use Rattle.bit_field.specs.declared.places.Structure.{Structure}
use Rattle.bit_field.specs.declared.places.Structure.TheVariants.{Pc, Npc, Bht, Btb, Ib, IdEx, ExMem, MemWb}
use Rattle.bit_field.specs.declared.places.Structure.TheVariants.{Rf, Sb, Port, CData, CTag, CValid, CDirty, CLru}
use Rattle.ace_class.specs.Counts.{place_of, structures}

-- the structure at its own place of the list
pub at_place : (s d : Structure) → slice_index_or structures (place_of s) d ≡ s
at_place Pc d = refl
at_place Npc d = refl
at_place Bht d = refl
at_place Btb d = refl
at_place Ib d = refl
at_place IdEx d = refl
at_place ExMem d = refl
at_place MemWb d = refl
at_place Rf d = refl
at_place Sb d = refl
at_place Port d = refl
at_place CData d = refl
at_place CTag d = refl
at_place CValid d = refl
at_place CDirty d = refl
at_place CLru d = refl

pub same_structure : (a b : Structure) → place_of a ≡ place_of b → a ≡ b
same_structure a b e = sym (at_place a Pc) ∙ ap (λ n. slice_index_or structures n Pc) e ∙ at_place b Pc

-- there are sixteen
pub place_most : (s : Structure) → place_of s < 16
place_most Pc = omega arith
place_most Npc = omega arith
place_most Bht = omega arith
place_most Btb = omega arith
place_most Ib = omega arith
place_most IdEx = omega arith
place_most ExMem = omega arith
place_most MemWb = omega arith
place_most Rf = omega arith
place_most Sb = omega arith
place_most Port = omega arith
place_most CData = omega arith
place_most CTag = omega arith
place_most CValid = omega arith
place_most CDirty = omega arith
place_most CLru = omega arith
