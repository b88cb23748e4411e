-- The byte of the youngest store that holds one.
use Rattle.std.proofs.Common.{◌≡◌, ℕ, ◌+◌, ◌<◌, Bool, true, false, List, [], ◌∷◌, ◌++◌, length, take, get_or, cond, refl, sym, ◌∙◌, ap, arith}
use Rattle.std.specs.Prelude.{Option, Some, None}
use Rattle.std.specs.Option.{option_or}
use Rattle.std.proofs.lemmas.Bool.Decides.{nat_tests}
use Rattle.std.proofs.lemmas.List.{take_more}
use Rattle.std.proofs.lemmas.Nat.Bits.{bit_at-zero}
use Rattle.bit_field.specs.Lanes.{has_lane}
use Rattle.store_buf.specs.Entry.{Entry}
use Rattle.store_buf.specs.Pending.{is_pending, pending}
use Rattle.store_buf.proofs.Packed.{mask-free}
use Rattle.store_buf.specs.Covers.{held, found}

or_assoc : (a b c : Option ℕ) → option_or (option_or a b) c ≡ option_or a (option_or b c)
or_assoc (Some x) b c = refl
or_assoc None b c = refl

or_none : (a : Option ℕ) → option_or a None ≡ a
or_none (Some x) = refl
or_none None = refl

-- one more store, the youngest
pub found-push : (stores : List Entry) (e : Entry) (addr lane : ℕ) → found (stores ++ e ∷ []) addr lane ≡ option_or (held e addr lane) (found stores addr lane)
unfolding found
found-push [] e addr lane = sym (or_none (held e addr lane))
found-push (s ∷ stores) e addr lane =
    ap (λ (o : Option ℕ). option_or o (held s addr lane)) (found-push stores e addr lane)
    ∙ or_assoc (held e addr lane) (found stores addr lane) (held s addr lane)

-- a slot more is read
pub found-more : (slots : List Entry) (i : ℕ) (x d : Entry) (addr lane : ℕ) → i < length slots → x ≡ get_or slots i d
    → found (take (i + 1) slots) addr lane ≡ option_or (held x addr lane) (found (take i slots) addr lane)
found-more slots i x d addr lane l is =
    ap (λ (xs : List Entry). found xs addr lane) (take_more slots i d l)
    ∙ found-push (take i slots) (get_or slots i d) addr lane
    ∙ ap (λ (y : Entry). option_or (held y addr lane) (found (take i slots) addr lane)) (sym is)

has_lane-zero : (lane : ℕ) → has_lane 0 lane ≡ false
has_lane-zero lane = rw (bit_at-zero lane)

-- a free slot holds no byte
pub held-free : (e : Entry) (addr lane : ℕ) → is_pending e ≡ false → held e addr lane ≡ None
unfolding held
held-free e addr lane free =
    let lanes : has_lane e.mask lane ≡ false = ap (λ (m : ℕ). has_lane m lane) (mask-free e free) ∙ has_lane-zero lane in
    grind (arith, nat_tests)

found_kept : (e : Entry) (stores slots : List Entry) (addr lane : ℕ) (b : Bool) → is_pending e ≡ b → found stores addr lane ≡ found slots addr lane
    → found (cond b (e ∷ stores) stores) addr lane ≡ option_or (found slots addr lane) (held e addr lane)
unfolding found
found_kept e stores slots addr lane true used same = ap (λ (o : Option ℕ). option_or o (held e addr lane)) same
found_kept e stores slots addr lane false free same =
    same ∙ sym (ap (λ (o : Option ℕ). option_or (found slots addr lane) o) (held-free e addr lane free) ∙ or_none (found slots addr lane))

-- the pending stores hold what the slots hold
pub found-pending : (slots : List Entry) (addr lane : ℕ) → found (pending slots) addr lane ≡ found slots addr lane
unfolding found
found-pending [] addr lane = refl
found-pending (e ∷ slots) addr lane = found_kept e (pending slots) slots addr lane (is_pending e) refl (found-pending slots addr lane)
