-- A write and a refill, byte by byte: first over the slots by set and way, where one slot is replaced, then of the contents.
use Rattle.std.proofs.Common.{◌≡◌, ◌≢◌, ℕ, ◌+◌, ◌*◌, ◌/◌, ◌%◌, ◌<◌, Bool, true, false, cond, List, length, arith, refl, ap, sym, subst, ◌∙◌}
use Rattle.std.specs.Prelude.{Option, Some, None, ◌==◌, nat_lt}
use Rattle.std.specs.Option.{option_map}
use Rattle.std.proofs.lemmas.Bool.{true≢false}
use Rattle.std.proofs.lemmas.Bool.Decides.{nat_tests}
use Rattle.bit_field.specs.Lanes.{lane_byte}
use Rattle.bit_field.specs.declared.shapes.Shape.{Shape}
use Rattle.elf_load.specs.Image.{LoadedImage, IsImage, ram_byte}
use Rattle.wb_cache.specs.Access.{byte_of, found, put, written}
use Rattle.wb_cache.specs.Bytewise.{RefillsLine, WritesLanes, is_lane_of}
use Rattle.wb_cache.specs.Changes.{filled_slot, put_slot, written_slot}
use Rattle.wb_cache.specs.Contents.{Contents, IsSized, Slot, slots}
use Rattle.wb_cache.specs.Lookup.{holds, set_of, way_of}
use Rattle.wb_cache.specs.Refill.{filled, memory_refilled, refilled, way_for, written_back}
use Rattle.wb_cache.specs.Replacement.{victim}
use Rattle.wb_cache.proofs.Calls.{ram-after_refill, slots-after_refill, slots-after_write}
use Rattle.wb_cache.proofs.Hits.{written-hit, written-miss}
use Rattle.wb_cache.proofs.Kept.{shape-after_refill, shape-after_write}
use Rattle.wb_cache.proofs.Victims.{victim-below}
use Rattle.wb_cache.proofs.Ways.{Here, Place, Slots, There, has, holds-one, place, way-none, way-only, way-same, way-some}

-- the byte at an address, in the first way that holds its line
abbrev given : Shape → Slots → ℕ → Option ℕ
given shape cache p = option_map (λ w. (cache (set_of shape (p / 16)) w).bytes (p % 16)) (way_of shape cache (p / 16))

given-same : (shape : Shape) (cache other : Slots) (p : ℕ) → way_of shape cache (p / 16) ≡ way_of shape other (p / 16)
    → ((w : ℕ) → way_of shape other (p / 16) ≡ Some w → (cache (set_of shape (p / 16)) w).bytes (p % 16) ≡ (other (set_of shape (p / 16)) w).bytes (p % 16))
    → given shape cache p ≡ given shape other p
given-same shape cache other p ways bytes =
    ap (option_map (λ w. (cache (set_of shape (p / 16)) w).bytes (p % 16))) ways ∙ go (way_of shape other (p / 16)) refl
  where
    go : (o : Option ℕ) → way_of shape other (p / 16) ≡ o
        → option_map (λ w. (cache (set_of shape (p / 16)) w).bytes (p % 16)) o ≡ option_map (λ w. (other (set_of shape (p / 16)) w).bytes (p % 16)) o
    go (Some w) e = ap Some (bytes w e)
    go None e = refl

-- ---- a write

abbrev lane_written : ℕ → ℕ → ℕ → ℕ → ℕ → ℕ → ℕ
lane_written line word mask value p old = cond (is_lane_of line word mask p) (lane_byte value (p % 4)) old

lane-here : (line word mask value p : ℕ) (slot : Slot) → p / 16 ≡ line
    → (written_slot word mask value slot).bytes (p % 16) ≡ lane_written line word mask value p (slot.bytes (p % 16))
unfolding written_slot
lane-here line word mask value p slot e =
    let lane : p % 16 % 4 ≡ p % 4 = omega arith in
    let same : (p / 16 == line) ≡ true = grind (arith, nat_tests) in
    rw (lane, same) refl

lane-off : (line word mask value p old : ℕ) → p / 16 ≢ line → lane_written line word mask value p old ≡ old
lane-off line word mask value p old ne = grind (arith, nat_tests)

module _ (shape : Shape) (line word mask value way : ℕ) (cache : Slots) (hit : way_of shape cache line ≡ Some way) where
  abbrev set : ℕ
  set = set_of shape line

  abbrev new : Slot
  new = written_slot word mask value (cache set way)

  abbrev after : Slots
  after = put_slot set way new cache

  old_there : (s w : ℕ) → s ≡ set → w ≡ way → cache s w ≡ cache set way
  old_there s w e f = ap (λ n. cache n w) e ∙ ap (cache set) f

  written-holds : (other s w : ℕ) → holds shape other (after s w) ≡ holds shape other (cache s w)
  unfolding written_slot
  written-holds other s w = go (place set way new cache s w)
    where
      go : Place set way new cache s w → holds shape other (after s w) ≡ holds shape other (cache s w)
      go (Here e f is) = ap (holds shape other) is ∙ sym (ap (holds shape other) (old_there s w e f))
      go (There ne is) = ap (holds shape other) is

  -- a write moves no line
  pub written-way : (other : ℕ) → way_of shape after other ≡ way_of shape cache other
  written-way other = way-same shape after cache other (λ w l. written-holds other (set_of shape other) w)

  one_way : (v w : ℕ) → Some v ≡ Some w → v ≡ w
  one_way v w e = cc

  written-byte : (p w : ℕ) → way_of shape cache (p / 16) ≡ Some w
      → (after (set_of shape (p / 16)) w).bytes (p % 16) ≡ lane_written line word mask value p ((cache (set_of shape (p / 16)) w).bytes (p % 16))
  written-byte p w there = go (place set way new cache (set_of shape (p / 16)) w)
    where
      this_line : set_of shape (p / 16) ≡ set → w ≡ way → p / 16 ≡ line
      this_line e f =
          holds-one shape (p / 16) line (cache set way) e
          (ap (holds shape (p / 16)) (sym (old_there (set_of shape (p / 16)) w e f)) ∙ (way-some shape cache (p / 16) w there).1)
          (way-some shape cache line way hit).1

      go : Place set way new cache (set_of shape (p / 16)) w
          → (after (set_of shape (p / 16)) w).bytes (p % 16) ≡ lane_written line word mask value p ((cache (set_of shape (p / 16)) w).bytes (p % 16))
      go (Here e f is) =
          ap (λ (slot : Slot). slot.bytes (p % 16)) is
          ∙ lane-here line word mask value p (cache set way) (this_line e f)
          ∙ ap (λ (slot : Slot). lane_written line word mask value p (slot.bytes (p % 16))) (sym (old_there (set_of shape (p / 16)) w e f))
      go (There ne is) =
          ap (λ (slot : Slot). slot.bytes (p % 16)) is
          ∙ sym (lane-off line word mask value p _ (λ h. ne (ap (set_of shape) h) (one_way w way (sym there ∙ ap (way_of shape cache) h ∙ hit))))

  pub written-given : (p : ℕ) → given shape after p ≡ option_map (lane_written line word mask value p) (given shape cache p)
  written-given p =
      ap (option_map (λ w. (after (set_of shape (p / 16)) w).bytes (p % 16))) (written-way (p / 16)) ∙ go (way_of shape cache (p / 16)) refl
    where
      go : (o : Option ℕ) → way_of shape cache (p / 16) ≡ o → option_map (λ w. (after (set_of shape (p / 16)) w).bytes (p % 16)) o
          ≡ option_map (lane_written line word mask value p) (option_map (λ w. (cache (set_of shape (p / 16)) w).bytes (p % 16)) o)
      go (Some w) e = ap Some (written-byte p w e)
      go None e = refl

-- ---- a refill

pub filled-self : (shape : Shape) (ram : ℕ → ℕ) (line : ℕ) → holds shape line (filled_slot shape ram line) ≡ true
unfolding filled_slot
filled-self shape ram line = grind (arith, nat_tests)

filled-byte : (shape : Shape) (ram : ℕ → ℕ) (line p : ℕ) → p / 16 ≡ line → (filled_slot shape ram line).bytes (p % 16) ≡ ram p
unfolding filled_slot
filled-byte shape ram line p e =
    let at : 16 * line + p % 16 ≡ p = omega arith in
    let within : nat_lt (p % 16) 16 ≡ true = grind (arith, nat_tests) in
    rw (within, at) refl

module _ (shape : Shape) (line way : ℕ) (cache : Slots) (ram : ℕ → ℕ) (below : way < shape.ways) (miss : way_of shape cache line ≡ None) where
  abbrev home : ℕ
  home = set_of shape line

  abbrev came : Slot
  came = filled_slot shape ram line

  abbrev refill : Slots
  refill = put_slot home way came cache

  was_there : (s w : ℕ) → s ≡ home → w ≡ way → cache s w ≡ cache home way
  was_there s w e f = ap (λ n. cache n w) e ∙ ap (cache home) f

  -- the line stands in the way that it was read into
  pub refilled-way : way_of shape refill line ≡ Some way
  refilled-way = way-only shape refill line way below (here (place home way came cache home way)) (λ v l h. only v l h (place home way came cache home v))
    where
      here : Place home way came cache home way → has shape refill line way ≡ true
      here (Here e f is) = ap (holds shape line) is ∙ filled-self shape ram line
      here (There ne is) = absurd (ne refl refl)

      only : (v : ℕ) → v < shape.ways → has shape refill line v ≡ true → Place home way came cache home v → v ≡ way
      only v l h (Here e f is) = f
      only v l h (There ne is) = absurd (true≢false (sym h ∙ ap (holds shape line) is ∙ way-none shape cache line miss v l))

  pub refilled-given : (p : ℕ) → p / 16 ≡ line → given shape refill p ≡ Some (ram p)
  refilled-given p e =
      ap (option_map (λ w. (refill (set_of shape (p / 16)) w).bytes (p % 16))) (ap (way_of shape refill) e ∙ refilled-way)
      ∙ ap Some (ap (λ n. (refill (set_of shape n) way).bytes (p % 16)) e ∙ ap (λ (slot : Slot). slot.bytes (p % 16))
      (there (place home way came cache home way)) ∙ filled-byte shape ram line p e)
    where
      there : Place home way came cache home way → refill home way ≡ came
      there (Here e f is) = is
      there (There ne is) = absurd (ne refl refl)

  -- a line that the victim didn't hold stands where it stood
  kept-has : (other w : ℕ) → other ≢ line → (set_of shape other ≡ home → holds shape other (cache home way) ≡ true → ⊥)
      → has shape refill other w ≡ has shape cache other w
  kept-has other w ne apart = go (place home way came cache (set_of shape other) w)
    where
      both : (a b : Bool) → (a ≡ true → ⊥) → (b ≡ true → ⊥) → a ≡ b
      both true b f g = absurd (f refl)
      both false true f g = absurd (g refl)
      both false false f g = refl

      go : Place home way came cache (set_of shape other) w → has shape refill other w ≡ has shape cache other w
      go (Here e f is) =
          ap (holds shape other) is
          ∙ both (holds shape other came) (holds shape other (cache home way)) (λ h. ne (holds-one shape other line came e h (filled-self shape ram line)))
          (apart e)
          ∙ sym (ap (holds shape other) (was_there (set_of shape other) w e f))
      go (There off is) = ap (holds shape other) is

  pub kept-given : (p : ℕ) → p / 16 ≢ line → (set_of shape (p / 16) ≡ home → holds shape (p / 16) (cache home way) ≡ true → ⊥)
      → given shape refill p ≡ given shape cache p
  kept-given p ne apart =
      given-same shape refill cache p (way-same shape refill cache (p / 16) (λ w l. kept-has (p / 16) w ne apart))
      (λ w e. go w (way-some shape cache (p / 16) w e).1 (place home way came cache (set_of shape (p / 16)) w))
    where
      go : (w : ℕ) → has shape cache (p / 16) w ≡ true → Place home way came cache (set_of shape (p / 16)) w
          → (refill (set_of shape (p / 16)) w).bytes (p % 16) ≡ (cache (set_of shape (p / 16)) w).bytes (p % 16)
      go w h (Here e f is) = absurd (apart e (ap (holds shape (p / 16)) (sym (was_there (set_of shape (p / 16)) w e f)) ∙ h))
      go w h (There off is) = ap (λ (slot : Slot). slot.bytes (p % 16)) is

-- ---- the contents

byte_of-given : (c : Contents) (shape : Shape) (cache : Slots) (p : ℕ) → c.shape ≡ shape → slots c ≡ cache → byte_of c p ≡ given shape cache p
unfolding byte_of
byte_of-given c shape cache p e f = ap (λ (s : Shape). given s (slots c) p) e ∙ ap (λ (s : Slots). given shape s p) f

pub writes-lanes : (line word mask value : ℕ) (c : Contents) → IsSized c → word < 4 → WritesLanes line word mask value c (written line word mask value c)
unfolding byte_of
writes-lanes line word mask value c sized w = record {
  bytes = λ p. go p (found c line) refl;
  slot = λ way hit. slots-after_write c line word mask value way sized w hit;
}
  where
    -- nothing is written where the line is missing
    missed : (p : ℕ) → found c line ≡ None → (o : Option ℕ) → way_of c.shape (slots c) (p / 16) ≡ o
        → option_map (λ w. (slots c (set_of c.shape (p / 16)) w).bytes (p % 16)) o
        ≡ option_map (lane_written line word mask value p) (option_map (λ w. (slots c (set_of c.shape (p / 16)) w).bytes (p % 16)) o)
    missed p miss None e = refl
    missed p miss (Some w) e = ap Some (sym (lane-off line word mask value p _ (λ h. none_some w (sym miss ∙ sym (ap (found c) h) ∙ e))))
      where
        none_some : (w : ℕ) → None ≡ Some w → ⊥
        none_some w e = absurd cc

    go : (p : ℕ) (o : Option ℕ) → found c line ≡ o
        → byte_of (written line word mask value c) p ≡ option_map (lane_written line word mask value p) (byte_of c p)
    go p None miss =
        ap (λ (d : Contents). byte_of d p) (written-miss c line word mask value (sym miss)) ∙ missed p miss (way_of c.shape (slots c) (p / 16)) refl
    go p (Some way) hit =
        byte_of-given (written line word mask value c) c.shape _ p (shape-after_write c line word mask value)
        (slots-after_write c line word mask value way sized w hit)
        ∙ written-given c.shape line word mask value way (slots c) hit p

-- the same of what the calls compute
pub put-lanes : (line word mask value way : ℕ) (c d : Contents) → IsSized c → word < 4 → Some way ≡ way_of c.shape (slots c) line
    → d ≡ put (set_of c.shape line) way word mask value c → WritesLanes line word mask value c d
put-lanes line word mask value way c d sized w hit e =
    subst (λ (x : Contents). WritesLanes line word mask value c x) (written-hit c line word mask value way hit ∙ sym e)
    (writes-lanes line word mask value c sized w)

pub missed-lanes : (line word mask value : ℕ) (c : Contents) → IsSized c → word < 4 → None ≡ way_of c.shape (slots c) line
    → WritesLanes line word mask value c c
missed-lanes line word mask value c sized w miss =
    subst (λ (x : Contents). WritesLanes line word mask value c x) (written-miss c line word mask value miss) (writes-lanes line word mask value c sized w)

module _ (image : LoadedImage) (line : ℕ) (memory : List ℕ) (c : Contents) (is : IsImage image) (long : length memory ≡ length image.ram)
    (sized : IsSized c) (miss : found c line ≡ None) where
  abbrev next_ram : ℕ → ℕ
  next_ram = ram_byte image (memory_refilled image line c memory)

  below : way_for c line < c.shape.ways
  below = victim-below c.shape (slots c) c.nodes (set_of c.shape line) sized.shape

  next-slots : slots (refilled image line memory c) ≡ put_slot (set_of c.shape line) (way_for c line) (filled_slot c.shape next_ram line) (slots c)
  next-slots =
      slots-after_refill image line memory c is long sized
      ∙ ap (λ (ram : ℕ → ℕ). put_slot (set_of c.shape line) (way_for c line) (filled_slot c.shape ram line) (slots c))
      (sym (ram-after_refill image line memory c is long sized))

  next-byte : (p : ℕ) → byte_of (refilled image line memory c) p
      ≡ given c.shape (put_slot (set_of c.shape line) (way_for c line) (filled_slot c.shape next_ram line) (slots c)) p
  next-byte p = byte_of-given (refilled image line memory c) c.shape _ p (shape-after_refill image line memory c) next-slots

  pub refills-line : RefillsLine image line c (refilled image line memory c) memory (memory_refilled image line c memory)
  refills-line = record {
    memory = λ p. ap (λ (ram : ℕ → ℕ). ram p) (ram-after_refill image line memory c is long sized);
    arrives = λ p e. next-byte p ∙ refilled-given c.shape line (way_for c line) (slots c) next_ram below miss p e;
    stays =
        λ p ne apart. next-byte p ∙ kept-given c.shape line (way_for c line) (slots c) next_ram below miss p ne apart
        ∙ sym (byte_of-given c c.shape (slots c) p refl refl);
    slot = next-slots;
  }

  pub came-line : (d : Contents) (new : List ℕ) (at way : ℕ) → at ≡ set_of c.shape line → way ≡ victim c.shape (slots c) c.nodes at
      → new ≡ written_back image at way c memory → d ≡ filled image line way new c → RefillsLine image line c d memory new
  unfolding memory_refilled refilled
  came-line d new at way s w n e =
      let way-is : way ≡ way_for c line = w ∙ ap (victim c.shape (slots c) c.nodes) s in
      let new-is : new ≡ memory_refilled image line c memory =
      n ∙ ap (λ (k : ℕ). written_back image k way c memory) s ∙ ap (λ (k : ℕ). written_back image (set_of c.shape line) k c memory) way-is in
      let d-is : d ≡ refilled image line memory c =
      e ∙ ap (λ (k : ℕ). filled image line k new c) way-is ∙ ap (λ (m : List ℕ). filled image line (way_for c line) m c) new-is in
      subst (λ (x : Contents). RefillsLine image line c x memory new) (sym d-is)
      (subst (λ (m : List ℕ). RefillsLine image line c (refilled image line memory c) memory m) (sym new-is) refills-line)
