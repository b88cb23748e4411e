-- The class of a bit of a slot of the instruction buffer, by the slot's number and the bit's in it.
use Rattle.std.proofs.Common.{◌≡◌, ℕ, ◌+◌, ◌*◌, ◌/◌, ◌%◌, ◌<◌, Bool, List, subst, arith}
use Rattle.std.specs.Prelude.{Some}
use Rattle.bit_field.specs.declared.places.Structure.TheVariants.{Ib}
use Rattle.inst_buf.specs.EntryBits as entry
use Rattle.inst_buf.specs.declared.slots.SlotField.{SlotField}
use Rattle.need_pass.specs.Tables.{Needs}
use Rattle.ace_law.specs.Moments.{Moment}
use Rattle.ace_rules.specs.FetchedTests.{fetched_tests}
use Rattle.ace_rules.specs.FirstRules.{class_by}
use Rattle.ace_rules.specs.Notes.{AreWordMasks, IsKnown}
use Rattle.ace_rules.specs.Tallies.{HasClass}
use Rattle.ace_rules.specs.declared.note.Note.{Note}
use Rattle.ace_rules.proofs.FetchedClasses.{fetched_class}

pub fetched-class-at : (a : Moment) (table : Needs) (note : Note) (words : List ℕ) (quiet : Bool) → IsKnown a table note quiet
    → AreWordMasks a table words → (i b : ℕ) (place : SlotField × ℕ) → entry.field_of b ≡ Some place → i < 4 → b < 64
    → HasClass a Ib (64 * i + b) (class_by (fetched_tests note words quiet i place.0 place.1))
fetched-class-at a table note words quiet known masks i b place at few l =
    let slot : (64 * i + b) / 64 ≡ i = omega (arith, l) in
    let bit : b ≡ (64 * i + b) % 64 = omega (arith, l) in
    subst (λ (n : ℕ). HasClass a Ib (64 * i + b) (class_by (fetched_tests note words quiet n place.0 place.1))) slot
    (fetched_class a table note words quiet known masks (64 * i + b) place
    (subst (λ (n : ℕ). entry.field_of n ≡ Some place) bit at) (omega (arith, few, l)))
