-- A slot of the store buffer replaced by another, over a byte below.
use Rattle.std.proofs.Common.{◌≡◌, ℕ, zero, suc, ◌/◌, ◌%◌, ◌<◌, Bool, true, false, List, [], ◌∷◌, length, drop, arith, refl, ap, sym, ◌∙◌}
use Rattle.std.specs.Prelude.{Option, Some, None, unwrap_or, slice_set}
use Rattle.elf_load.specs.Image.{in_ram}
use Rattle.store_buf.specs.Covers.{found}
use Rattle.store_buf.specs.Entry.{Entry}
use Rattle.store_buf.specs.Pending.{pending, slot_of}
use Rattle.cyc_machine.specs.State.{State}
use Rattle.flush_view.specs.Struck.{OtherStore, with_store}
use Rattle.flush_view.specs.Views.{over, overlaid, view}
use Rattle.flush_view.proofs.Memory.FourSlots.{overlaid-pending}
use Rattle.flush_view.proofs.Memory.Overlay.{overlaid-found}

-- two bytes below the stores, seen alike where no store holds the byte
pub overlaid-seen : (es : List Entry) (seen : ℕ → ℕ) (p x y : ℕ) → (found es (p / 4) (p % 4) ≡ None → seen x ≡ seen y)
    → seen (overlaid es p x) ≡ seen (overlaid es p y)
overlaid-seen es seen p x y same =
    ap seen (overlaid-found es p x) ∙ go (found es (p / 4) (p % 4)) refl ∙ sym (ap seen (overlaid-found es p y))
  where
    go : (o : Option ℕ) → found es (p / 4) (p % 4) ≡ o → seen (unwrap_or o x) ≡ seen (unwrap_or o y)
    go (Some v) e = refl
    go None e = same e

pub overlaid-set : (slots : List Entry) (i : ℕ) (e : Entry) (seen : ℕ → ℕ) (p x : ℕ) → i < length slots
    → (found (drop (suc i) slots) (p / 4) (p % 4) ≡ None → (below : ℕ) → seen (over e p below) ≡ seen (over (slot_of slots i) p below))
    → seen (overlaid (slice_set slots i e) p x) ≡ seen (overlaid slots p x)
unfolding overlaid
overlaid-set [] i e seen p x l same = absurd (omega arith)
overlaid-set (a ∷ slots) zero e seen p x l same = overlaid-seen slots seen p (over e p x) (over a p x) (λ none. same none x)
overlaid-set (a ∷ slots) (suc i) e seen p x l same = overlaid-set slots i e seen p (over a p x) (omega arith) same

pub other-store : (s : State) (i : ℕ) (e : Entry) → i < length s.stores → OtherStore s i e
unfolding view
other-store s i e l = record { coherent = λ out coherent. coherent; view = λ seen p same. go seen p (in_ram s.image p) refl same }
  where
    inside : (seen : ℕ → ℕ) (p below : ℕ)
        → (found (drop (suc i) s.stores) (p / 4) (p % 4) ≡ None → (b : ℕ) → seen (over e p b) ≡ seen (over (slot_of s.stores i) p b))
        → seen (overlaid (pending (slice_set s.stores i e)) p below) ≡ seen (overlaid (pending s.stores) p below)
    inside seen p below same =
        ap seen (overlaid-pending (slice_set s.stores i e) p below)
        ∙ overlaid-set s.stores i e seen p below l same
        ∙ sym (ap seen (overlaid-pending s.stores p below))

    go : (seen : ℕ → ℕ) (p : ℕ) (b : Bool) → in_ram s.image p ≡ b
        → (in_ram s.image p ≡ true → found (drop (suc i) s.stores) (p / 4) (p % 4) ≡ None
        → (below : ℕ) → seen (over e p below) ≡ seen (over (slot_of s.stores i) p below))
        → seen (view (with_store i e s) p) ≡ seen (view s p)
    go seen p true h same = rw h (inside seen p _ (same h))
    go seen p false h same = rw h refl
