-- The classes of the bits of the value of a pending store by masks.
use Rattle.std.proofs.Common.{◌≡◌, ℕ, ◌+◌, ◌-◌, ◌*◌, ◌/◌, ◌%◌, ◌^◌, ◌<◌, ◌&&◌, not, Bool, true, false, [], ◌∷◌, refl, ap, ◌∙◌, arith}
use Rattle.std.specs.Prelude.{Some, if◌then◌else◌}
use Rattle.std.proofs.lemmas.Bool.Decides.{nat_tests}
use Rattle.std.proofs.lemmas.Nat.Bits.{bit_at_ones}
use Rattle.bit_field.specs.Lanes.{has_lane}
use Rattle.bit_field.specs.declared.places.Structure.TheVariants.{Sb}
use Rattle.bit_field.proofs.Located.{located-here, located-on}
use Rattle.elf_load.specs.Image.{LoadedImage}
use Rattle.need_pass.specs.Tables.{Needs}
use Rattle.store_buf.specs.Pending.{slot_of}
use Rattle.store_buf.specs.EntryBits as sb
use Rattle.store_buf.specs.declared.pending.PendingField.TheVariants.{Value}
use Rattle.ace_class.specs.declared.class.Class.TheVariants.{Ace, UnAce}
use Rattle.ace_class.specs.declared.class.Rule.TheVariants.{DeadData, EmptyPlace, StoreRedirection}
use Rattle.ace_law.specs.Moments.{Moment}
use Rattle.ace_rules.specs.Asked.{is_dead, is_dead_value, is_redirected, is_unused, pending_class}
use Rattle.ace_rules.specs.Notes.{IsKnown}
use Rattle.ace_rules.specs.RuleMasks.{first_of, is_set}
use Rattle.ace_rules.specs.Tallies.{HasClass}
use Rattle.ace_rules.specs.declared.note.Note.{Note}
use Rattle.ace_rules.specs.declared.tally_pending.TheConstants.{BYTE_MASK}
use Rattle.ace_rules.proofs.LatchMarks.{of}
use Rattle.ace_rules.proofs.MarkedBits.{when-set}
use Rattle.ace_rules.proofs.PendingClass.{pending-class}

pub all-set : (j : ℕ) → j < 8 → is_set BYTE_MASK j ≡ true
all-set j l = let e : is_set (2 ^ 8 - 1) j ≡ true = (let h = bit_at_ones 8 j l in grind (arith, nat_tests)) in e

-- the third rule holds of no bit of a value
two : (h q d : Bool) → (if not h then UnAce EmptyPlace else if q && (h && d) then UnAce DeadData else Ace)
    ≡ (if not h then UnAce EmptyPlace else if q && d then UnAce DeadData else if q && false then UnAce StoreRedirection else Ace)
two true true true = refl
two true true false = refl
two true false d = refl
two false q d = refl

class-of : (image : LoadedImage) (table : Needs) (note : Note) (quiet : Bool) (i b j : ℕ)
    → pending_class image table note quiet i b Value j
    ≡ (if not (has_lane (slot_of note.stores i).mask (j / 8)) then UnAce EmptyPlace
    else if quiet && is_dead table note (i + 1) (4 * (slot_of note.stores i).addr + j / 8) (j % 8) then UnAce DeadData
    else if quiet && false then UnAce StoreRedirection else Ace)
unfolding pending_class is_unused is_dead_value is_redirected
class-of image table note quiet i b j = refl

module _ (table : Needs) (note : Note) (quiet : Bool) (i lane j : ℕ) (l : j < 8) (mask addr : ℕ) where
  and-true : (b : Bool) → (b && true) ≡ b
  and-true true = refl
  and-true false = refl

  empty-set : (empty : ℕ) → empty ≡ (if not (has_lane mask lane) then BYTE_MASK else 0) → is_set empty j ≡ not (has_lane mask lane)
  empty-set empty e =
      ap (λ (x : ℕ). is_set x j) e ∙ when-set (not (has_lane mask lane)) BYTE_MASK j
      ∙ ap (λ (b : Bool). not (has_lane mask lane) && b) (all-set j l) ∙ and-true (not (has_lane mask lane))

  pub byte-marked : (image : LoadedImage) (b empty dead masked : ℕ) → mask ≡ (slot_of note.stores i).mask
      → addr ≡ (slot_of note.stores i).addr → empty ≡ (if not (has_lane mask lane) then BYTE_MASK else 0)
      → is_set dead j ≡ (has_lane mask lane && is_dead table note (i + 1) (4 * addr + lane) j) → masked ≡ (if quiet then dead else 0)
      → first_of (of EmptyPlace empty ∷ of DeadData masked ∷ []) j ≡ pending_class image table note quiet i b Value (8 * lane + j)
  byte-marked image b empty dead masked is_mask is_addr e d m =
      let byte : (8 * lane + j) / 8 ≡ lane = omega (arith, l) in
      let bit : (8 * lane + j) % 8 ≡ j = omega (arith, l) in
      let dead_is = ap (λ (x : ℕ). is_set x j) m ∙ when-set quiet dead j ∙ ap (λ (x : Bool). quiet && x) d in
      rw (class-of image table note quiet i b (8 * lane + j), byte, bit, empty-set empty e, dead_is, is_mask, is_addr)
      (two (has_lane (slot_of note.stores i).mask lane) quiet (is_dead table note (i + 1) (4 * (slot_of note.stores i).addr + lane) j))

value-at : (j : ℕ) → j < 32 → sb.field_of (34 + j) ≡ Some (Value, j)
value-at j l =
    let e : 34 + j - 4 - 30 ≡ j = omega arith in
    located-on sb.width _ _ (34 + j) (omega arith) ∙ located-on sb.width _ _ (34 + j - 4) (omega arith)
    ∙ located-here sb.width Value _ (34 + j - 4 - 30) (omega (arith, l)) ∙ ap (λ (n : ℕ). Some (Value, n)) e

pub value-class : (a : Moment) (table : Needs) (note : Note) (quiet : Bool) → IsKnown a table note quiet → (i j : ℕ) → i < 4 → j < 32
    → HasClass a Sb (66 * i + (34 + j)) (pending_class a.r.image table note quiet i (34 + j) Value j)
value-class a table note quiet known i j few l =
    let slot : (66 * i + (34 + j)) / 66 ≡ i = omega (arith, l) in
    let bit : (66 * i + (34 + j)) % 66 ≡ 34 + j = omega (arith, l) in
    pending-class a.r.image a table note quiet known refl i few (66 * i + (34 + j)) (34 + j) slot bit Value j (value-at j l) (omega (arith, l)) l
