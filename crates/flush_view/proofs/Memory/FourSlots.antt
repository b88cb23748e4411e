-- The stores that are pending are those of the four slots, the free ones left out.
use Rattle.std.proofs.Common.{◌≡◌, ℕ, ◌%◌, Bool, true, false, List, [], ◌∷◌, length, refl, sym, ◌∙◌, ap, arith, cond}
use Rattle.std.proofs.lemmas.Bool.Decides.{nat_tests}
use Rattle.std.proofs.lemmas.Nat.Bits.{bit_at-zero}
use Rattle.bit_field.specs.Lanes.{has_lane}
use Rattle.store_buf.specs.Entry.{Entry}
use Rattle.store_buf.specs.Pending.{is_pending, pending, slot_of}
use Rattle.store_buf.proofs.Packed.{mask-free}
use Rattle.flush_view.specs.Views.{over, overlaid}

-- a free slot holds no byte
pub over-free : (e : Entry) (p below : ℕ) → is_pending e ≡ false → over e p below ≡ below
over-free e p below free =
    let lanes : has_lane e.mask (p % 4) ≡ false = ap (λ (m : ℕ). has_lane m (p % 4)) (mask-free e free) ∙ rw (bit_at-zero (p % 4)) in
    grind (arith, nat_tests)

overlaid_kept : (e : Entry) (stores slots : List Entry) (p below : ℕ) (b : Bool) → is_pending e ≡ b
    → ((x : ℕ) → overlaid stores p x ≡ overlaid slots p x)
    → overlaid (cond b (e ∷ stores) stores) p below ≡ overlaid slots p (over e p below)
unfolding overlaid
overlaid_kept e stores slots p below true used same = same (over e p below)
overlaid_kept e stores slots p below false free same = same below ∙ ap (overlaid slots p) (sym (over-free e p below free))

pub overlaid-pending : (slots : List Entry) (p below : ℕ) → overlaid (pending slots) p below ≡ overlaid slots p below
unfolding overlaid
overlaid-pending [] p below = refl
overlaid-pending (e ∷ slots) p below = overlaid_kept e (pending slots) slots p below (is_pending e) refl (λ x. overlaid-pending slots p x)

four_slots : (slots : List Entry) (p below : ℕ) → length slots ≡ 4
    → over (slot_of slots 3) p (over (slot_of slots 2) p (over (slot_of slots 1) p (over (slot_of slots 0) p below))) ≡ overlaid slots p below
unfolding overlaid
four_slots [] p below four = absurd (omega arith)
four_slots (a ∷ []) p below four = absurd (omega arith)
four_slots (a ∷ b ∷ []) p below four = absurd (omega arith)
four_slots (a ∷ b ∷ c ∷ []) p below four = absurd (omega arith)
four_slots (a ∷ b ∷ c ∷ d ∷ []) p below four = refl
four_slots (a ∷ b ∷ c ∷ d ∷ e ∷ es) p below four = absurd (omega arith)

pub overlaid_slots : (slots : List Entry) (p below : ℕ) → length slots ≡ 4
    → over (slot_of slots 3) p (over (slot_of slots 2) p (over (slot_of slots 1) p (over (slot_of slots 0) p below)))
    ≡ overlaid (pending slots) p below
overlaid_slots slots p below four = four_slots slots p below four ∙ sym (overlaid-pending slots p below)
