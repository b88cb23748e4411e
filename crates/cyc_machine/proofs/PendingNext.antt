-- The stores that are pending after a cycle are those that the cycle's list says.
use Rattle.std.proofs.Common.{◌≡◌, ℕ, ◌/◌, ◌%◌, Bool, true, false, List, [], ◌∷◌, ◌++◌, length, arith, refl, ap, ◌∙◌}
use Rattle.std.specs.Prelude.{not, ◌&&◌, nat_lt, if◌then◌else◌}
use Rattle.std.specs.List.{All}
use Rattle.std.specs.Int.{bit_at}
use Rattle.std.proofs.lemmas.Bool.{eq-eqb}
use Rattle.std.proofs.lemmas.List.Elements.{All-append, All-nil, All-push, All-tail}
use Rattle.std.proofs.lemmas.Nat.Bits.{bit_at-zero}
use Rattle.elf_load.specs.Image.{LoadedImage, word_in_ram}
use Rattle.rv_table.specs.Accesses.{accesses, lane_mask, store_size}
use Rattle.rv_table.specs.declared.action.Action.{Action}
use Rattle.rv_table.specs.declared.action.Action.TheVariants.{Nothing, Writes, Loads, Stores, Puts, Exits, Traps}
use Rattle.rv_table.specs.declared.operation.StoreKind.{StoreKind}
use Rattle.rv_table.proofs.Stores.{store_mask-bit}
use Rattle.store_buf.specs.Entry.{Entry}
use Rattle.store_buf.specs.Pending.{is_pending, packed, pending, younger}
use Rattle.store_buf.proofs.Packed.{pending-mask, pending-packed, pending_used}
use Rattle.cyc_machine.specs.declared.port.Move.{Move}
use Rattle.cyc_machine.specs.declared.port.Move.TheVariants.{Rests, Reads, Drains, Misses, Waits, Leaves, Fills}
use Rattle.cyc_machine.specs.Memory.{appended, entry_of, kept_stores, stores_after, without_stray}

abbrev pub AreUsed : List Entry → Type 0
AreUsed es = All (λ e. is_pending e ≡ true) es

younger_used : (es : List Entry) → AreUsed es → AreUsed (younger es)
younger_used [] used = used
younger_used (e ∷ es) used = All-tail (λ e. is_pending e ≡ true) e es used

stray_used : (image : LoadedImage) (es : List Entry) → AreUsed es → AreUsed (without_stray image es)
stray_used image [] used = used
stray_used image (e ∷ es) used = go (word_in_ram image e.addr)
  where
    go : (b : Bool) → AreUsed (if (not b) then es else (e ∷ es))
    go true = used
    go false = All-tail (λ e. is_pending e ≡ true) e es used

kept_used : (image : LoadedImage) (v : Move) (es : List Entry) → AreUsed es → AreUsed (kept_stores image v es)
kept_used image Rests es used = stray_used image es used
kept_used image (Reads word way) es used = stray_used image es used
kept_used image (Drains e way) es used = younger_used es used
kept_used image (Misses line way count owner) es used = stray_used image es used
kept_used image Waits es used = stray_used image es used
kept_used image Leaves es used = stray_used image es used
kept_used image (Fills line way) es used = stray_used image es used

-- a store writes a lane
zero_one : (n : ℕ) → n ≡ 0 → n ≡ 1 → ⊥
zero_one n e f = omega (arith, e, f)

some_lane : (kind : StoreKind) (x : ℕ) → lane_mask (store_size kind) x ≡ 0 → ⊥
unfolding accesses
some_lane kind x none =
    let here : accesses (store_size kind) x x ≡ true = eq-eqb (x / store_size kind) (x / store_size kind) refl in
    let bit : bit_at (lane_mask (store_size kind) x) (x % 4) ≡ 1 = store_mask-bit kind x x refl ∙ ap (λ b. if b then 1 else 0) here in
    zero_one (bit_at (lane_mask (store_size kind) x) (x % 4)) (ap (λ m. bit_at m (x % 4)) none ∙ bit_at-zero (x % 4)) bit

none_used : AreUsed []
none_used = All-nil (λ e. is_pending e ≡ true)

one_used : (e : Entry) → is_pending e ≡ true → AreUsed (e ∷ [])
one_used e h = All-push (λ e. is_pending e ≡ true) [] e none_used h

appended_used : (image : LoadedImage) (m : Action) (room : Bool) → AreUsed (appended image m room)
unfolding appended
appended_used image Nothing room = none_used
appended_used image (Writes rd value) room = none_used
appended_used image (Loads kind rd x) room = none_used
appended_used image (Stores kind x y) room = go (room && word_in_ram image (x / 4))
  where
    go : (b : Bool) → AreUsed (if b then entry_of kind x y ∷ [] else [])
    go true = one_used (entry_of kind x y) (pending-mask (entry_of kind x y) (some_lane kind x))
    go false = none_used
appended_used image (Puts value) room = none_used
appended_used image (Exits value) room = none_used
appended_used image (Traps cause) room = none_used

pub pending-after : (image : LoadedImage) (m : Action) (v : Move) (slots : List Entry)
    → pending (packed (stores_after image m v (pending slots))) ≡ stores_after image m v (pending slots)
unfolding stores_after
pending-after image m v slots =
    pending-packed (kept_stores image v (pending slots) ++ appended image m (nat_lt (length (pending slots)) 4))
    (All-append (λ e. is_pending e ≡ true) (kept_stores image v (pending slots)) (appended image m (nat_lt (length (pending slots)) 4))
    (kept_used image v (pending slots) (pending_used slots)) (appended_used image m (nat_lt (length (pending slots)) 4)))
