-- What first-level deadness says of bits.
use Rattle.std.specs.Prelude.{◌≡◌, ℕ, ◌+◌, ◌<◌, true, List, Some, slice_get}
use Rattle.std.specs.Int.{bit_at}
use Rattle.need_pass.specs.Links.{writes}
use Rattle.need_pass.specs.Tables.{Needs, reg_need}
use Rattle.rv_isa.specs.declared.effect.Retired.{Retired}
use Rattle.dead_class.specs.Classes.{classes_of}
use Rattle.dead_class.specs.declared.class.DeadClass.TheVariants.{FddReg}

-- a register value that nothing reads has no needed bit after the instruction that writes it
abbrev pub UnreadIsUnneeded : List Retired → Needs → Type 0
UnreadIsUnneeded entries needs =
    (i r k : ℕ) (entry : Retired)
    → slice_get entries i ≡ Some entry
    → slice_get (classes_of entries) i ≡ Some FddReg
    → writes entry r ≡ true
    → 0 < r
    → r < 32
    → k < 32
    → bit_at (reg_need needs r (i + 1)) k ≡ 0
