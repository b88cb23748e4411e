-- The labels that the program has found.
use Rattle.std.specs.Prelude.{ℕ, List, bytes_eq, Option}
use Rattle.std.specs.HashMap as hash
use Rattle.std.specs.HashMap.{HashMap}
use Rattle.std.specs.Borrow.{Bor}
use Rattle.std.specs.declared.hash.FoldHasher.{FoldHasher}
use Rattle.std.specs.declared.hash.BuildHasherDefault.{BuildHasherDefault}
use Rattle.rv_asm.specs.declared.layout.Place.{Place}

-- where a label of these bytes stands
abbrev pub found : HashMap (Bor (List ℕ)) Place (BuildHasherDefault FoldHasher) → List ℕ → Option Place
found labels q = hash.get_by (λ k. bytes_eq q k.now) labels
