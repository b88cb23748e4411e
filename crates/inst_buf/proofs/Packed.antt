-- The list of the valid slots, and the slots that hold a list.
use Rattle.std.proofs.Common.{◌≡◌, ◌<◌, ◌≤◌, true, false, List, [], ◌∷◌, length, drop, refl, arith, length-drop}
use Rattle.std.specs.List.{All}
use Rattle.std.proofs.lemmas.List.Elements.{filter_passes}
use Rattle.bit_field.proofs.Slots.{length-in_front, length-used, stands-four, used-in_front}
use Rattle.bit_field.specs.Slots.{Stands}
use Rattle.inst_buf.specs.Buffer.{entries, packed, slot_of}
use Rattle.inst_buf.specs.Entry.{Entry, no_entry}
use Rattle.inst_buf.specs.declared.buffer.TheConstants.{SLOTS}

-- every waiting entry is valid, and there are at most as many as slots
pub entries_valid : (slots : List Entry) → All (λ e. e.valid ≡ true) (entries slots)
entries_valid slots = filter_passes (λ e. e.valid) slots

pub length-entries : (slots : List Entry) → length (entries slots) ≤ length slots
length-entries slots = length-used (λ e. e.valid) slots

-- a packed list fills the slots, and is read back
pub length-packed : (waiting : List Entry) → length waiting ≤ SLOTS → length (packed waiting) ≡ SLOTS
length-packed waiting room = length-in_front SLOTS no_entry waiting room

pub entries-packed : (waiting : List Entry) → All (λ e. e.valid ≡ true) waiting → entries (packed waiting) ≡ waiting
entries-packed waiting valid = used-in_front (λ e. e.valid) SLOTS no_entry waiting refl valid

-- slots that each stand are packed
pub standing : (slots : List Entry) → length slots ≡ SLOTS → Stands (λ e. e.valid) no_entry (slot_of slots 0) (slot_of slots 1).valid
    → Stands (λ e. e.valid) no_entry (slot_of slots 1) (slot_of slots 2).valid
    → Stands (λ e. e.valid) no_entry (slot_of slots 2) (slot_of slots 3).valid → Stands (λ e. e.valid) no_entry (slot_of slots 3) false
    → packed (entries slots) ≡ slots
standing [] long first second third last = absurd (omega arith)
standing (a ∷ []) long first second third last = absurd (omega arith)
standing (a ∷ b ∷ []) long first second third last = absurd (omega arith)
standing (a ∷ b ∷ c ∷ []) long first second third last = absurd (omega arith)
standing (a ∷ b ∷ c ∷ d ∷ _ ∷ _) long first second third last = absurd (omega arith)
standing (a ∷ b ∷ c ∷ d ∷ []) long first second third last = stands-four (λ e. e.valid) no_entry a b c d refl first second third last

-- fewer than all slots stay behind the first
pub length-later : (slots : List Entry) → length slots ≡ SLOTS → length (drop 1 (entries slots)) < SLOTS
length-later slots long = omega (arith, length-entries slots, long, length-drop 1 (entries slots))
