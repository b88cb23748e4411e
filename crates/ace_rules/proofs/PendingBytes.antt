-- Whether the stores from some slot on write a byte, slot by slot.
use Rattle.std.proofs.Common.{◌≡◌, ◌<◌, ◌≤◌, ◌/◌, ◌%◌, ℕ, zero, suc, Bool, true, false, ◌||◌, List, [], ◌∷◌, length, refl, arith, cond}
use Rattle.std.specs.Prelude.{is_some, Option, Some, None}
use Rattle.std.specs.Option.{option_or}
use Rattle.bit_field.specs.Lanes.{lane_byte}
use Rattle.store_buf.specs.Covers.{found, held}
use Rattle.store_buf.specs.Entry.{Entry}
use Rattle.store_buf.specs.Pending.{slot_of}
use Rattle.ace_law.specs.MemoryRules.{writes}
use Rattle.ace_rules.specs.Asked.{written_from}

pub held-writes : (o : Option ℕ) (e : Entry) (p : ℕ) → is_some (option_or o (held e (p / 4) (p % 4))) ≡ (writes e p || is_some o)
unfolding held
held-writes o e p = go (writes e p) o
  where
    go : (b : Bool) (o : Option ℕ) → is_some (option_or o (cond b (Some (lane_byte e.value (p % 4))) None)) ≡ (b || is_some o)
    go true (Some v) = refl
    go true None = refl
    go false (Some v) = refl
    go false None = refl

pub written-more : (stores : List Entry) (i p : ℕ) → i < length stores
    → written_from stores i p ≡ (writes (slot_of stores i) p || written_from stores (suc i) p)
unfolding found
written-more [] i p l = absurd (omega arith)
written-more (e ∷ stores) zero p l = held-writes (found stores (p / 4) (p % 4)) e p
written-more (e ∷ stores) (suc i) p l = written-more stores i p (omega arith)

pub written-none : (stores : List Entry) (i p : ℕ) → length stores ≤ i → written_from stores i p ≡ false
unfolding found
written-none [] zero p l = refl
written-none [] (suc i) p l = refl
written-none (e ∷ stores) zero p l = absurd (omega arith)
written-none (e ∷ stores) (suc i) p l = written-none stores i p (omega arith)
