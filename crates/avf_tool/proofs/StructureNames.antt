-- The structure of a name is the first of the structures that has it.
use Rattle.std.proofs.Common.{◌≡◌, ◌≢◌, ℕ, List, [], ◌∷◌, Bool, true, false, Option, None, Some, refl, sym, subst}
use Rattle.std.specs.Prelude.{bytes_eq}
use Rattle.std.specs.List.{find}
use Rattle.std.specs.Bool.{Decides}
use Rattle.std.proofs.lemmas.Slice.Eq.{bytes_eq-Decides}
use Rattle.bit_field.specs.Names.{IsNamed, name_of}
use Rattle.bit_field.specs.declared.places.Structure.{Structure}
use Rattle.bit_field.specs.declared.places.Structure.TheVariants.{Pc, Npc, Bht, Btb, Ib, IdEx, ExMem, MemWb, Rf, Sb, Port, CData, CTag, CValid, CDirty, CLru}
use Rattle.ace_class.specs.Counts.{structures}
use Rattle.avf_tool.specs.Words.{structure_of}

-- each has its name alone
own : (s : Structure) → Some s ≡ structure_of (name_of s)
own Pc = refl
own Npc = refl
own Bht = refl
own Btb = refl
own Ib = refl
own IdEx = refl
own ExMem = refl
own MemWb = refl
own Rf = refl
own Sb = refl
own Port = refl
own CData = refl
own CTag = refl
own CValid = refl
own CDirty = refl
own CLru = refl

not_so : {P : Type 0} (b : Bool) → Decides b P → (P → ⊥) → b ≡ false
not_so false is never = refl
not_so true is never = absurd (never (is.0 refl))

unlike : (name other : List ℕ) → name ≢ other → bytes_eq name other ≡ false
unlike name other h = not_so (bytes_eq name other) (bytes_eq-Decides name other) h

none_found : (name : List ℕ) (among : List Structure) → ((s : Structure) → name ≢ name_of s) → None ≡ find (λ s. bytes_eq name (name_of s)) among
none_found name [] h = refl
none_found name (s ∷ among) h = rw (unlike name (name_of s) (h s)) (none_found name among h)

pub named : (name : List ℕ) (result : Option Structure) → IsNamed name result → result ≡ structure_of name
named name None h = none_found name structures h
named name (Some s) h = subst (λ n. Some s ≡ structure_of n) (sym h) (own s)
