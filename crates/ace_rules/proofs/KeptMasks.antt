-- The masks that are kept from cycle to cycle.
use Rattle.std.proofs.Common.{◌≡◌, Bool, true, false, refl}
use Rattle.std.specs.Prelude.{None, Some, if◌then◌else◌}
use Rattle.rv_isa.specs.Architecture.{ArchState}
use Rattle.need_pass.specs.Tables.{Needs}
use Rattle.ace_rules.specs.Situations.{AreKept, AreMasks}
use Rattle.ace_rules.specs.declared.situation.Situation.{Situation}
use Rattle.ace_rules.specs.declared.situation.MaskedLatches.{MaskedLatches}

-- they hold in the next cycle too, where no instruction leaves the memory stage
pub kept_on : (table : Needs) (arch next : ArchState) (leaves : Bool) (now : MaskedLatches) (s : Situation) → (leaves ≡ false → next ≡ arch)
    → now.situation ≡ s → AreMasks table arch s now.masks → AreKept table next (if leaves then None else Some now)
kept_on table arch next true now s stays is masks = tt
kept_on table arch next false now s stays is masks = rw (stays refl, is) masks
