-- The list of the pending stores, and the slots that hold a list.
use Rattle.std.proofs.Common.{◌≡◌, ◌≤◌, true, false, List, [], ◌∷◌, length, refl, arith}
use Rattle.std.specs.List.{All}
use Rattle.std.proofs.lemmas.Bool.Decides.{nat_tests}
use Rattle.std.proofs.lemmas.List.Elements.{filter_passes}
use Rattle.bit_field.proofs.Slots.{length-in_front, length-used, stands-four, used-in_front}
use Rattle.bit_field.specs.Slots.{Stands}
use Rattle.store_buf.specs.Entry.{Entry, no_entry}
use Rattle.store_buf.specs.Pending.{is_pending, pending, packed, slot_of}
use Rattle.store_buf.specs.declared.buffer.TheConstants.{SLOTS}

-- a slot is pending exactly where its mask isn't 0
pub pending-mask : (e : Entry) → (e.mask ≡ 0 → ⊥) → is_pending e ≡ true
pending-mask e h = grind (arith, nat_tests)

pub free-mask : (e : Entry) → e.mask ≡ 0 → is_pending e ≡ false
free-mask e h = grind (arith, nat_tests)

pub mask-free : (e : Entry) → is_pending e ≡ false → e.mask ≡ 0
mask-free e h = grind (arith, nat_tests)

-- every pending store is one, and there are at most as many as slots
pub pending_used : (slots : List Entry) → All (λ e. is_pending e ≡ true) (pending slots)
pending_used slots = filter_passes is_pending slots

pub length-pending : (slots : List Entry) → length (pending slots) ≤ length slots
length-pending slots = length-used is_pending slots

-- a packed list fills the slots, and is read back
pub length-packed : (stores : List Entry) → length stores ≤ SLOTS → length (packed stores) ≡ SLOTS
length-packed stores room = length-in_front SLOTS no_entry stores room

pub pending-packed : (stores : List Entry) → All (λ e. is_pending e ≡ true) stores → pending (packed stores) ≡ stores
pending-packed stores all = used-in_front is_pending SLOTS no_entry stores refl all

-- slots that each stand are packed
pub standing : (slots : List Entry) → length slots ≡ SLOTS → Stands is_pending no_entry (slot_of slots 0) (is_pending (slot_of slots 1))
    → Stands is_pending no_entry (slot_of slots 1) (is_pending (slot_of slots 2))
    → Stands is_pending no_entry (slot_of slots 2) (is_pending (slot_of slots 3)) → Stands is_pending no_entry (slot_of slots 3) false
    → packed (pending slots) ≡ slots
standing [] long first second third last = absurd (omega arith)
standing (a ∷ []) long first second third last = absurd (omega arith)
standing (a ∷ b ∷ []) long first second third last = absurd (omega arith)
standing (a ∷ b ∷ c ∷ []) long first second third last = absurd (omega arith)
standing (a ∷ b ∷ c ∷ d ∷ _ ∷ _) long first second third last = absurd (omega arith)
standing (a ∷ b ∷ c ∷ d ∷ []) long first second third last = stands-four is_pending no_entry a b c d refl first second third last
