-- The names of the structures in commands and reports.
use Rattle.std.specs.Prelude.{◌≡◌, ◌≢◌, ℕ, List, codes, MatchOption}
use Rattle.std.specs.Prelude.{Option}
use Rattle.bit_field.specs.declared.places.Structure.{Structure}
use Rattle.bit_field.specs.declared.places.Structure.TheVariants.{Pc, Npc, Bht, Btb, Ib, IdEx, ExMem, MemWb, Rf, Sb, Port, CData, CTag, CValid, CDirty, CLru}

-- the bytes of its name
abbrev pub name_of : Structure → List ℕ
name_of Pc = codes "pc"
name_of Npc = codes "npc"
name_of Bht = codes "bht"
name_of Btb = codes "btb"
name_of Ib = codes "ib"
name_of IdEx = codes "idex"
name_of ExMem = codes "exmem"
name_of MemWb = codes "memwb"
name_of Rf = codes "rf"
name_of Sb = codes "sb"
name_of Port = codes "port"
name_of CData = codes "cdata"
name_of CTag = codes "ctag"
name_of CValid = codes "cvalid"
name_of CDirty = codes "cdirty"
name_of CLru = codes "clru"

-- the structure of that name, and none exactly where none has it
abbrev pub IsNamed : List ℕ → Option Structure → Type 0
IsNamed name result = MatchOption result ((s : Structure) → name ≢ name_of s) (λ s. name ≡ name_of s)
