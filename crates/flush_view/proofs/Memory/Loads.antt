-- A load that is done gives the view's bytes.
use Rattle.std.proofs.Common.{◌≡◌, ℕ, zero, suc, ◌*◌, ◌/◌, ◌%◌, ◌^◌, ◌<◌, Bool, true, false, cond, List, [], ◌∷◌, lit<, arith, refl, sym, ap, ◌∙◌}
use Rattle.std.specs.Prelude.{Option, Some, None, ◌==◌, ◌&&◌, ◌||◌, not, is_some, is_none, unwrap_or}
use Rattle.std.specs.Option.{option_or}
use Rattle.std.proofs.lemmas.Nat.{mod_below}
use Rattle.std.proofs.lemmas.Bool.{true≢false}
use Rattle.rv_table.specs.Accesses.{accesses, byte_of, lane_mask, load_size}
use Rattle.rv_table.specs.declared.operation.LoadKind.{LoadKind}
use Rattle.rv_table.proofs.Loads.{same_word}
use Rattle.bit_field.specs.Lanes.{has_lane, lane_byte}
use Rattle.store_buf.specs.Covers.{all_found, byte_found, each_lane, found, held, is_found, is_missing, none_found, word_found}
use Rattle.store_buf.specs.Entry.{Entry}
use Rattle.wb_cache.specs.Access.{word_at}
use Rattle.wb_cache.proofs.Lanes.{lane-word_at}
use Rattle.flush_view.specs.Views.{overlaid}
use Rattle.cyc_machine.proofs.LoadedLanes.{lane-byte, named-lane}
use Rattle.flush_view.proofs.Memory.Overlay.{overlaid-found}

byte_under : (value lane : ℕ) → lane < 4 → lane_byte value lane < 256
unfolding byte_of
byte_under value lane h = rw (lane-byte value lane h) (mod_below (value / 2 ^ (8 * lane)) 256 (lit< tt))

pub byte_below : (value lane : ℕ) → lane_byte value lane < 256
byte_below value zero = byte_under value 0 (lit< tt)
byte_below value (suc zero) = byte_under value 1 (lit< tt)
byte_below value (suc (suc zero)) = byte_under value 2 (lit< tt)
byte_below value (suc (suc (suc zero))) = byte_under value 3 (lit< tt)
byte_below value (suc (suc (suc (suc n)))) = lit< tt

held_below : (e : Entry) (addr lane : ℕ) → unwrap_or (held e addr lane) 0 < 256
unfolding held
held_below e addr lane = go (e.addr == addr && has_lane e.mask lane)
  where
    go : (b : Bool) → unwrap_or (cond b (Some (lane_byte e.value lane)) None) 0 < 256
    go true = byte_below e.value lane
    go false = lit< tt

or_below : (a b : Option ℕ) → unwrap_or a 0 < 256 → unwrap_or b 0 < 256 → unwrap_or (option_or a b) 0 < 256
or_below (Some v) b h k = h
or_below None b h k = k

found_below : (es : List Entry) (addr lane : ℕ) → unwrap_or (found es addr lane) 0 < 256
unfolding found
found_below [] addr lane = lit< tt
found_below (e ∷ es) addr lane = or_below (found es addr lane) (held e addr lane) (found_below es addr lane) (held_below e addr lane)

of_four : (test : ℕ → Bool) (lane : ℕ) → lane < 4 → each_lane test ≡ true → test lane ≡ true
of_four test zero h e = grind arith
of_four test (suc zero) h e = grind arith
of_four test (suc (suc zero)) h e = grind arith
of_four test (suc (suc (suc zero))) h e = grind arith
of_four test (suc (suc (suc (suc n)))) h e = absurd (omega arith)

some_of : (b : Bool) (o : Option ℕ) (x y : ℕ) → b ≡ true → (not b || is_some o) ≡ true → unwrap_or o x ≡ unwrap_or o y
some_of b (Some v) x y e h = refl
some_of true None x y e h = absurd (true≢false (sym h))
some_of false None x y e h = absurd (true≢false (sym e))

none_of : (b : Bool) (o : Option ℕ) → b ≡ true → (not b || is_none o) ≡ true → o ≡ None
none_of true (Some v) e h = absurd (true≢false (sym h))
none_of false (Some v) e h = absurd (true≢false (sym e))
none_of b None e h = refl

-- the word that was put together from the pending stores
wanted_below : (es : List Entry) (addr lanes lane : ℕ) → byte_found es addr lanes lane < 256
unfolding byte_found
wanted_below es addr lanes lane = go (has_lane lanes lane)
  where
    go : (b : Bool) → cond b (unwrap_or (found es addr lane) 0) 0 < 256
    go true = found_below es addr lane
    go false = lit< tt

word-lane : (es : List Entry) (addr lanes lane : ℕ) → lane < 4 → byte_of (word_found es addr lanes) lane ≡ byte_found es addr lanes lane
unfolding word_found word_at
word-lane es addr lanes lane h =
    sym (lane-byte (word_found es addr lanes) lane h)
    ∙ lane-word_at (record { valid = false; dirty = false; tag = 0; bytes = byte_found es addr lanes }) 0 lane (wanted_below es addr lanes) h
    ∙ ap (byte_found es addr lanes) (omega arith)

wanted-byte : (es : List Entry) (addr lanes lane : ℕ) → has_lane lanes lane ≡ true → byte_found es addr lanes lane ≡ unwrap_or (found es addr lane) 0
unfolding byte_found
wanted-byte es addr lanes lane h = rw h refl

-- full cover: each byte that is accessed is the view's
pub covered-byte : (es : List Entry) (kind : LoadKind) (x p b : ℕ) → accesses (load_size kind) x p ≡ true
    → all_found es (x / 4) (lane_mask (load_size kind) x) ≡ true
    → byte_of (word_found es (x / 4) (lane_mask (load_size kind) x)) (p % 4) ≡ overlaid es p b
unfolding all_found
covered-byte es kind x p b a full =
    let lane : p % 4 < 4 = omega arith in
    let mask : ℕ = lane_mask (load_size kind) x in
    let here : is_found es (x / 4) mask (p % 4) ≡ true = of_four (is_found es (x / 4) mask) (p % 4) lane full in
    word-lane es (x / 4) mask (p % 4) lane
    ∙ wanted-byte es (x / 4) mask (p % 4) (named-lane kind x p a)
    ∙ some_of (has_lane mask (p % 4)) (found es (x / 4) (p % 4)) 0 b (named-lane kind x p a) here
    ∙ ap (λ (w : ℕ). unwrap_or (found es w (p % 4)) b) (sym (same_word kind x p a))
    ∙ sym (overlaid-found es p b)

-- no cover: each byte that is accessed is the one below
pub uncovered-byte : (es : List Entry) (kind : LoadKind) (x p b : ℕ) → accesses (load_size kind) x p ≡ true
    → none_found es (x / 4) (lane_mask (load_size kind) x) ≡ true → overlaid es p b ≡ b
unfolding none_found
uncovered-byte es kind x p b a clear =
    let lane : p % 4 < 4 = omega arith in
    let mask : ℕ = lane_mask (load_size kind) x in
    let here : is_missing es (x / 4) mask (p % 4) ≡ true = of_four (is_missing es (x / 4) mask) (p % 4) lane clear in
    let none : found es (x / 4) (p % 4) ≡ None = none_of (has_lane mask (p % 4)) (found es (x / 4) (p % 4)) (named-lane kind x p a) here in
    overlaid-found es p b
    ∙ ap (λ (w : ℕ). unwrap_or (found es w (p % 4)) b) (same_word kind x p a)
    ∙ ap (λ (o : Option ℕ). unwrap_or o b) none
