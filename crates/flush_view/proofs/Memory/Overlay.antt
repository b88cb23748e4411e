-- The pending stores over a byte: the youngest, a stray one, and one more.
use Rattle.std.proofs.Common.{◌≡◌, ℕ, ◌/◌, ◌%◌, ◌<◌, Bool, true, false, cond, List, [], ◌∷◌, ◌++◌, arith, refl, ap, sym, ◌∙◌}
use Rattle.std.specs.Prelude.{Option, Some, None, ◌==◌, not, unwrap_or}
use Rattle.std.specs.Option.{option_or}
use Rattle.std.proofs.lemmas.Bool.{eqb-true, true≢false}
use Rattle.std.proofs.lemmas.Bool.Decides.{nat_tests}
use Rattle.elf_load.specs.Image.{LoadedImage, IsImage, in_ram, word_in_ram}
use Rattle.elf_load.proofs.InRam.{in_ram-word}
use Rattle.rv_table.specs.Accesses.{accesses, byte_of, lane_mask, store_size, store_word, stored}
use Rattle.rv_table.specs.declared.operation.StoreKind.{StoreKind}
use Rattle.rv_table.specs.declared.operation.StoreKind.TheVariants.{Sb, Sh, Sw}
use Rattle.rv_table.proofs.Stores.{store_mask-bit, store_word-byte}
use Rattle.bit_field.specs.Lanes.{has_lane, lane_byte}
use Rattle.store_buf.specs.Covers.{found, held}
use Rattle.store_buf.specs.Entry.{Entry}
use Rattle.cyc_machine.specs.Memory.{entry_of, without_stray}
use Rattle.cyc_machine.proofs.LoadedLanes.{lane-byte}
use Rattle.flush_view.specs.Views.{over, overlaid}

pub overlaid-push : (es : List Entry) (e : Entry) (p x : ℕ) → overlaid (es ++ e ∷ []) p x ≡ over e p (overlaid es p x)
unfolding overlaid
overlaid-push [] e p x = refl
overlaid-push (a ∷ es) e p x = overlaid-push es e p (over a p x)

-- the youngest store that holds the byte gives it
over-held : (e : Entry) (p x : ℕ) → over e p x ≡ unwrap_or (held e (p / 4) (p % 4)) x
unfolding held
over-held e p x = grind (arith, nat_tests)

over_or : (a b : Option ℕ) (x : ℕ) → unwrap_or a (unwrap_or b x) ≡ unwrap_or (option_or a b) x
over_or (Some v) b x = refl
over_or None b x = refl

pub overlaid-found : (es : List Entry) (p x : ℕ) → overlaid es p x ≡ unwrap_or (found es (p / 4) (p % 4)) x
unfolding overlaid found
overlaid-found [] p x = refl
overlaid-found (e ∷ es) p x =
    overlaid-found es p (over e p x)
    ∙ ap (unwrap_or (found es (p / 4) (p % 4))) (over-held e p x)
    ∙ over_or (found es (p / 4) (p % 4)) (held e (p / 4) (p % 4)) x

-- a store outside RAM holds no byte of RAM
over-outside : (image : LoadedImage) (e : Entry) (p x : ℕ) → IsImage image → in_ram image p ≡ true → word_in_ram image e.addr ≡ false → over e p x ≡ x
over-outside image e p x is inside out =
    let word : word_in_ram image (p / 4) ≡ true = sym (in_ram-word image p is) ∙ inside in
    go (e.addr == p / 4) refl word
  where
    go : (b : Bool) → (e.addr == p / 4) ≡ b → word_in_ram image (p / 4) ≡ true → over e p x ≡ x
    go true h word = absurd (true≢false (sym word ∙ ap (word_in_ram image) (sym (the_word h)) ∙ out))
      where
        the_word : (e.addr == p / 4) ≡ true → e.addr ≡ p / 4
        the_word h = grind (arith, nat_tests)
    go false h word = rw h refl

pub overlaid-stray : (image : LoadedImage) (es : List Entry) (p x : ℕ) → IsImage image → in_ram image p ≡ true
    → overlaid (without_stray image es) p x ≡ overlaid es p x
unfolding overlaid
overlaid-stray image [] p x is inside = refl
overlaid-stray image (e ∷ es) p x is inside = go (word_in_ram image e.addr) refl
  where
    go : (b : Bool) → word_in_ram image e.addr ≡ b → overlaid (cond (not b) es (e ∷ es)) p x ≡ overlaid es p (over e p x)
    go true h = refl
    go false h = ap (overlaid es p) (sym (over-outside image e p x is inside h))

one : (b : Bool) → (cond b 1 0 == 1) ≡ b
one true = refl
one false = refl

zeros : (kind : StoreKind) (x y p : ℕ) → accesses (store_size kind) x p ≡ true → stored kind x y (λ q. 0) p ≡ byte_of y (p % store_size kind)
unfolding stored
zeros kind x y p a = rw a refl

-- a store accesses bytes of its word alone
pub one_word : (kind : StoreKind) (x p : ℕ) → accesses (store_size kind) x p ≡ true → p / 4 ≡ x / 4
unfolding accesses
one_word Sb x p a = let e = eqb-true (p / 1) (x / 1) a in omega arith
one_word Sh x p a = let e = eqb-true (p / 2) (x / 2) a in omega arith
one_word Sw x p a = eqb-true (p / 4) (x / 4) a

other_word : (kind : StoreKind) (x p : ℕ) → accesses (store_size kind) x p ≡ true → (x / 4 ≡ p / 4 → ⊥) → ⊥
other_word kind x p a ne = ne (sym (one_word kind x p a))

-- the store that M is done with, over the byte before
pub over-entry : (kind : StoreKind) (x y p : ℕ) (memory : ℕ → ℕ) → over (entry_of kind x y) p (memory p) ≡ stored kind x y memory p
unfolding stored
over-entry kind x y p memory = go (x / 4 == p / 4) refl (accesses (store_size kind) x p) refl
  where
    lane : p % 4 < 4
    lane = omega arith

    named : x / 4 ≡ p / 4 → has_lane (lane_mask (store_size kind) x) (p % 4) ≡ accesses (store_size kind) x p
    named w = ap (λ n. n == 1) (store_mask-bit kind x p (sym w)) ∙ one (accesses (store_size kind) x p)

    value : x / 4 ≡ p / 4 → accesses (store_size kind) x p ≡ true → lane_byte (store_word kind x y) (p % 4) ≡ byte_of y (p % store_size kind)
    value w a = lane-byte (store_word kind x y) (p % 4) lane ∙ store_word-byte kind x y p (sym w) ∙ zeros kind x y p a

    go : (b : Bool) → (x / 4 == p / 4) ≡ b → (a : Bool) → accesses (store_size kind) x p ≡ a
        → over (entry_of kind x y) p (memory p) ≡ cond (accesses (store_size kind) x p) (byte_of y (p % store_size kind)) (memory p)
    go true e true f = rw (e, named (grind (arith, nat_tests)), f) (value (grind (arith, nat_tests)) f)
    go true e false f = rw (e, named (grind (arith, nat_tests)), f) refl
    go false e true f = absurd (other_word kind x p f (λ h. grind (arith, nat_tests)))
    go false e false f = rw (e, f) refl
