-- The classes of the bits of the mask and of the address of a pending store by masks.
use Rattle.std.proofs.Common.{◌≡◌, ◌≢◌, ℕ, zero, suc, ◌+◌, ◌-◌, ◌*◌, ◌/◌, ◌%◌, ◌<◌, ◌≤◌, ◌==◌, ◌&&◌, ◌||◌, not, Bool, true, false, List, [], ◌∷◌, nat_le, nat_lt, refl, sym, ap, subst, ◌∙◌, inl, inr, arith}
use Rattle.std.specs.Prelude.{Some, bit_or, if◌then◌else◌}
use Rattle.std.specs.Int.{bit_at}
use Rattle.std.proofs.lemmas.Bool.{agree_below, agree_below_at, cases_eq, cases_lt}
use Rattle.std.proofs.lemmas.Bool.Decides.{nat_tests}
use Rattle.std.proofs.lemmas.Nat.Bits.{bit_at-lt}
use Rattle.bit_field.specs.Lanes.{has_lane}
use Rattle.bit_field.specs.Layouts.{flip}
use Rattle.bit_field.specs.declared.places.Structure.TheVariants.{Sb}
use Rattle.bit_field.proofs.Bits.{bit_at-flip_other, bit_at-flip_same}
use Rattle.bit_field.proofs.LayoutLaws.{flipped-at}
use Rattle.bit_field.proofs.Located.{located-here, located-on}
use Rattle.elf_load.specs.Image.{LoadedImage}
use Rattle.need_pass.specs.Tables.{Needs}
use Rattle.store_buf.specs.Entry.{Entry}
use Rattle.store_buf.specs.EntryBits as sb
use Rattle.store_buf.specs.Pending.{slot_of}
use Rattle.store_buf.specs.declared.pending.PendingField.TheVariants.{Addr, Mask}
use Rattle.ace_class.specs.declared.class.Class.TheVariants.{Ace, UnAce}
use Rattle.ace_class.specs.declared.class.Rule.TheVariants.{DeadData, EmptyPlace, StoreRedirection}
use Rattle.ace_law.specs.MemoryRules.{writes}
use Rattle.ace_law.specs.Moments.{Moment}
use Rattle.ace_rules.specs.Asked.{is_dead_value, is_harmless, is_harmless_at, is_harmless_in, is_redirected, is_spared, is_unused, just_one, pending_class}
use Rattle.ace_rules.specs.Notes.{IsKnown}
use Rattle.ace_rules.specs.RuleMasks.{first_of, is_left_harmless, is_met_harmless, is_place_of, is_set}
use Rattle.ace_rules.specs.Tallies.{HasClass}
use Rattle.ace_rules.specs.declared.note.Note.{Note}
use Rattle.ace_rules.specs.declared.tally.RuleMask.{RuleMask}
use Rattle.ace_rules.specs.declared.tally_target.TheConstants.{ADDRESS_MASK}
use Rattle.ace_rules.proofs.LatchMarks.{of}
use Rattle.ace_rules.proofs.MarkedBits.{when-set}
use Rattle.ace_rules.proofs.NextBits.{set-or, set-pow}
use Rattle.ace_rules.proofs.PendingClass.{pending-class}

-- ---- a store with a bit flipped that says where it writes

mask-at : (j : ℕ) → j < 4 → sb.field_of j ≡ Some (Mask, j)
mask-at j l = located-here sb.width Mask _ j l

address-at : (j : ℕ) → j < 30 → sb.field_of (4 + j) ≡ Some (Addr, j)
address-at j l =
    let e : 4 + j - 4 ≡ j = omega arith in
    located-on sb.width _ _ (4 + j) (omega arith) ∙ located-here sb.width Addr _ (4 + j - 4) (omega (arith, l)) ∙ ap (λ (n : ℕ). Some (Addr, n)) e

mask-flipped : (e : Entry) (j : ℕ) → j < 4 → sb.flipped e j ≡ record e { mask = flip e.mask j }
mask-flipped e j l = flipped-at sb.layout e j (Mask, j) (mask-at j l)

address-flipped : (e : Entry) (j : ℕ) → j < 30 → sb.flipped e (4 + j) ≡ record e { addr = flip e.addr j }
address-flipped e j l = flipped-at sb.layout e (4 + j) (Addr, j) (address-at j l)

moves : (a j : ℕ) → flip a j ≢ a
moves a j h =
    let one = bit_at-flip_same a j in
    let low = bit_at-lt a j in
    let same : bit_at (flip a j) j ≡ bit_at a j = ap (λ (n : ℕ). bit_at n j) h in
    omega (arith, one, low, same)

away : (e : Entry) (j : ℕ) → j < 30 → (sb.flipped e (4 + j)).addr ≢ e.addr
away e j l h = moves e.addr j (sym (ap (λ (r : Entry). r.addr) (address-flipped e j l)) ∙ h)

-- ---- the bytes of a store's word

equal : (a : ℕ) → (a == a) ≡ true
equal a = grind (arith, nat_tests)

apart : (a b : ℕ) → a ≢ b → (a == b) ≡ false
apart a b ne = grind (arith, nat_tests)

writes-at : (e : Entry) (p w l : ℕ) → p / 4 ≡ w → p % 4 ≡ l → writes e p ≡ (e.addr == w && has_lane e.mask l)
writes-at e p w l word lane = rw (word, lane) refl

-- a store that is redirected to another word no longer writes its bytes
lost : (b : Bool) → (if b then not false else false) ≡ b
lost true = refl
lost false = refl

just-own : (e r : Entry) (p l : ℕ) → r.addr ≢ e.addr → p / 4 ≡ e.addr → p % 4 ≡ l → just_one e r p ≡ has_lane e.mask l
unfolding just_one
just-own e r p l ne word lane =
    rw (writes-at e p e.addr l word lane, writes-at r p e.addr l word lane, equal e.addr, apart r.addr e.addr ne) (lost (has_lane e.mask l))

-- a store with lane l of its mask flipped writes the same but for that byte
other-lane : (mask l m : ℕ) → (if has_lane mask m then not (has_lane (flip mask l) m) else has_lane (flip mask l) m) ≡ (m == l)
other-lane mask l m = elim (cases_eq m l) [
  | inl e ↦
      let one = bit_at-flip_same mask l in
      let low = bit_at-lt mask l in
      rw e (grind (arith, nat_tests))
  | inr ne ↦
      let same : has_lane (flip mask l) m ≡ has_lane mask m = ap (λ (n : ℕ). n == 1) (bit_at-flip_other mask l m ne) in
      rw (same, apart m l ne) (go (has_lane mask m))
]
  where
    go : (b : Bool) → (if b then not b else b) ≡ false
    go true = refl
    go false = refl

just-lane : (e : Entry) (p l m : ℕ) → p / 4 ≡ e.addr → p % 4 ≡ m → just_one e (record e { mask = flip e.mask l }) p ≡ (m == l)
unfolding just_one
just-lane e p l m word lane =
    rw (writes-at e p e.addr m word lane, writes-at (record e { mask = flip e.mask l }) p e.addr m word lane, equal e.addr) (other-lane e.mask l m)

-- ---- a mask of four bits, each by a test

module _ (s0 s1 s2 s3 : Bool) (a b c d : ℕ) (first : a ≡ (if s0 then 1 else 0)) (second : b ≡ (if s1 then 2 else 0)) (third : c ≡ (if s2 then 4 else 0))
    (fourth : d ≡ (if s3 then 8 else 0)) where
  four-set : (k : ℕ) → is_set (bit_or (bit_or (bit_or a b) c) d) k ≡ (s0 && k == 0 || s1 && k == 1 || s2 && k == 2 || s3 && k == 3)
  four-set k =
      rw (
        set-or (bit_or (bit_or a b) c) d k,
        set-or (bit_or a b) c k,
        set-or a b k,
        first,
        second,
        third,
        fourth,
        when-set s0 1 k,
        when-set s1 2 k,
        when-set s2 4 k,
        when-set s3 8 k,
        set-pow 0 k,
        set-pow 1 k,
        set-pow 2 k,
        set-pow 3 k,
      ) refl

  pub four-lanes : (test : ℕ → Bool) → s0 ≡ test 0 → s1 ≡ test 1 → s2 ≡ test 2 → s3 ≡ test 3 → (l : ℕ) → l < 4
      → is_set (bit_or (bit_or (bit_or a b) c) d) l ≡ test l
  four-lanes test e f g h zero l = four-set 0 ∙ go s0 s1 s2 s3 ∙ e
    where
      go : (p q r s : Bool) → (p && true || q && false || r && false || s && false) ≡ p
      go true q r s = refl
      go false true true true = refl
      go false true true false = refl
      go false true false true = refl
      go false true false false = refl
      go false false true true = refl
      go false false true false = refl
      go false false false true = refl
      go false false false false = refl
  four-lanes test e f g h (suc zero) l = four-set 1 ∙ go s0 s1 s2 s3 ∙ f
    where
      go : (p q r s : Bool) → (p && false || q && true || r && false || s && false) ≡ q
      go true q r s = grind (arith, nat_tests)
      go false q r s = grind (arith, nat_tests)
  four-lanes test e f g h (suc (suc zero)) l = four-set 2 ∙ go s0 s1 s2 s3 ∙ g
    where
      go : (p q r s : Bool) → (p && false || q && false || r && true || s && false) ≡ r
      go true q r s = grind (arith, nat_tests)
      go false q r s = grind (arith, nat_tests)
  four-lanes test e f g h (suc (suc (suc zero))) l = four-set 3 ∙ go s0 s1 s2 s3 ∙ h
    where
      go : (p q r s : Bool) → (p && false || q && false || r && false || s && true) ≡ s
      go true q r s = grind (arith, nat_tests)
      go false q r s = grind (arith, nat_tests)
  four-lanes test e f g h (suc (suc (suc (suc n)))) l = absurd (omega (arith, l))

  pub four-none : (k : ℕ) → 4 ≤ k → is_set (bit_or (bit_or (bit_or a b) c) d) k ≡ false
  four-none k l =
      rw (
        four-set k,
        apart k 0 (λ e. absurd (omega (arith, e, l))),
        apart k 1 (λ e. absurd (omega (arith, e, l))),
        apart k 2 (λ e. absurd (omega (arith, e, l))),
        apart k 3 (λ e. absurd (omega (arith, e, l))),
      ) (go s0 s1 s2 s3)
    where
      go : (p q r s : Bool) → (p && false || q && false || r && false || s && false) ≡ false
      go true q r s = grind (arith, nat_tests)
      go false q r s = grind (arith, nat_tests)

module _ (image : LoadedImage) (table : Needs) (note : Note) (i : ℕ) where
  abbrev store : Entry
  store = slot_of note.stores i

  abbrev spared : ℕ → Bool
  spared p = is_spared image table note i p

  -- ---- bits of the address

  own-byte : (r : Entry) (p l : ℕ) → r.addr ≢ store.addr → p / 4 ≡ store.addr → p % 4 ≡ l
      → is_harmless_at image table note i r p ≡ (not (has_lane store.mask l) || spared p)
  unfolding is_harmless_at
  own-byte r p l ne word lane = rw (just-own store r p l ne word lane) refl

  own-word : (r : Entry) → r.addr ≢ store.addr → is_harmless_in image table note i r store.addr
      ≡ ((not (has_lane store.mask 0) || spared (4 * store.addr)) && (not (has_lane store.mask 1) || spared (4 * store.addr + 1))
      && (not (has_lane store.mask 2) || spared (4 * store.addr + 2)) && (not (has_lane store.mask 3) || spared (4 * store.addr + 3)))
  unfolding is_harmless_in
  own-word r ne =
      rw (
        own-byte r (4 * store.addr) 0 ne (omega arith) (omega arith),
        own-byte r (4 * store.addr + 1) 1 ne (omega arith) (omega arith),
        own-byte r (4 * store.addr + 2) 2 ne (omega arith) (omega arith),
        own-byte r (4 * store.addr + 3) 3 ne (omega arith) (omega arith),
      ) refl

  -- which of the address bits is flipped doesn't matter for the word that the store leaves
  left-same : (j : ℕ) → j < 30 → is_harmless_in image table note i (sb.flipped store (4 + j)) store.addr ≡ is_left_harmless image table note i
  left-same j l =
      own-word (sb.flipped store (4 + j)) (away store j l) ∙ sym (own-word (sb.flipped store 4) (away store 0 (omega arith)))

  address-redirected : (j : ℕ) → j < 30
      → is_redirected image table note i Addr (4 + j) ≡ (is_left_harmless image table note i && is_met_harmless image table note i (4 + j))
  unfolding is_redirected is_harmless
  address-redirected j l = rw (left-same j l) refl

  -- ---- bits of the mask

  lane-byte : (p l m : ℕ) → p / 4 ≡ store.addr → p % 4 ≡ m
      → is_harmless_at image table note i (record store { mask = flip store.mask l }) p ≡ (not (m == l) || spared p)
  unfolding is_harmless_at
  lane-byte p l m word lane = rw (just-lane store p l m word lane) refl

  lane-word : (l : ℕ) → is_harmless_in image table note i (record store { mask = flip store.mask l }) store.addr
      ≡ ((not (0 == l) || spared (4 * store.addr)) && (not (1 == l) || spared (4 * store.addr + 1))
      && (not (2 == l) || spared (4 * store.addr + 2)) && (not (3 == l) || spared (4 * store.addr + 3)))
  unfolding is_harmless_in
  lane-word l =
      rw (
        lane-byte (4 * store.addr) l 0 (omega arith) (omega arith),
        lane-byte (4 * store.addr + 1) l 1 (omega arith) (omega arith),
        lane-byte (4 * store.addr + 2) l 2 (omega arith) (omega arith),
        lane-byte (4 * store.addr + 3) l 3 (omega arith) (omega arith),
      ) refl

  lane-spared : (l : ℕ) → l < 4 → is_harmless_in image table note i (record store { mask = flip store.mask l }) store.addr ≡ spared (4 * store.addr + l)
  lane-spared zero l = lane-word 0 ∙ first (spared (4 * store.addr)) ∙ ap spared (omega arith)
    where
      first : (b : Bool) → (b && true && true && true) ≡ b
      first true = refl
      first false = refl
  lane-spared (suc zero) l = lane-word 1 ∙ second (spared (4 * store.addr + 1))
    where
      second : (b : Bool) → (true && b && true && true) ≡ b
      second true = refl
      second false = refl
  lane-spared (suc (suc zero)) l = lane-word 2 ∙ third (spared (4 * store.addr + 2))
    where
      third : (b : Bool) → (true && true && b && true) ≡ b
      third true = refl
      third false = refl
  lane-spared (suc (suc (suc zero))) l = lane-word 3
  lane-spared (suc (suc (suc (suc n)))) l = absurd (omega (arith, l))

  both : (b : Bool) → (b && b) ≡ b
  both true = refl
  both false = refl

  mask-redirected : (l : ℕ) → l < 4 → is_redirected image table note i Mask l ≡ spared (4 * store.addr + l)
  unfolding is_redirected is_harmless
  mask-redirected l few = rw (mask-flipped store l few, lane-spared l few) (both (spared (4 * store.addr + l)))

  -- ---- the masks

  address-tried : agree_below (λ j. is_set ADDRESS_MASK (4 + j)) (λ j. true) 30 ≡ true
  address-tried = refl

  address-set : (j : ℕ) → j < 30 → is_set ADDRESS_MASK (4 + j) ≡ true
  address-set j l = agree_below_at (λ k. is_set ADDRESS_MASK (4 + k)) (λ k. true) 30 j address-tried l

  mask-tried : agree_below (is_set ADDRESS_MASK) (λ j. false) 4 ≡ true
  mask-tried = refl

  mask-clear : (j : ℕ) → j < 4 → is_set ADDRESS_MASK j ≡ false
  mask-clear j l = agree_below_at (is_set ADDRESS_MASK) (λ k. false) 4 j mask-tried l

  place-here : (test : ℕ → Bool) (j : ℕ) → j < 30 → is_place_of test 4 30 (4 + j) ≡ test j
  place-here test j l =
      let e : 4 + j - 4 ≡ j = omega arith in
      rw e (go (test j))
    where
      go : (b : Bool) → (nat_le 4 (4 + j) && (nat_lt (4 + j) (4 + 30) && b)) ≡ b
      go true = grind (arith, nat_tests)
      go false = grind (arith, nat_tests)

  place-before : (test : ℕ → Bool) (j : ℕ) → j < 4 → is_place_of test 4 30 j ≡ false
  place-before test j l = grind (arith, nat_tests)

  module _ (quiet : Bool) (mask empty lanes address redirected : ℕ) (is_mask : mask ≡ store.mask)
      (e : empty ≡ (if mask == 0 then ADDRESS_MASK else 0)) (d : redirected ≡ (if quiet then bit_or lanes address else 0))
      (lanes-are : (l : ℕ) → l < 4 → is_set lanes l ≡ spared (4 * store.addr + l)) (no-lanes : (k : ℕ) → 4 ≤ k → is_set lanes k ≡ false)
      (address-is : (k : ℕ) → is_set address k ≡ (not (store.mask == 0) && is_left_harmless image table note i
      && is_place_of (λ j. is_met_harmless image table note i (4 + j)) 4 30 k)) where
    empty-is : (k : ℕ) → is_set empty k ≡ (store.mask == 0 && is_set ADDRESS_MASK k)
    empty-is k = ap (λ (x : ℕ). is_set x k) e ∙ rw is_mask (when-set (store.mask == 0) ADDRESS_MASK k)

    redirected-is : (k : ℕ) → is_set redirected k ≡ (quiet && (is_set lanes k || is_set address k))
    redirected-is k =
        ap (λ (x : ℕ). is_set x k) d ∙ when-set quiet (bit_or lanes address) k ∙ ap (λ (b : Bool). quiet && b) (set-or lanes address k)

    of-mask : (z q s : Bool) → (if z && false then UnAce EmptyPlace else if q && (s || (not z && is_left_harmless image table note i && false)) then UnAce StoreRedirection else Ace)
        ≡ (if q && false then UnAce DeadData else if q && s then UnAce StoreRedirection else Ace)
    of-mask z q s = go z q s (is_left_harmless image table note i)
      where
        go : (z q s h : Bool) → (if z && false then UnAce EmptyPlace else if q && (s || (not z && h && false)) then UnAce StoreRedirection else Ace)
            ≡ (if q && false then UnAce DeadData else if q && s then UnAce StoreRedirection else Ace)
        go true true true h = refl
        go true true false h = refl
        go true false s h = refl
        go false true true h = refl
        go false true false true = refl
        go false true false false = refl
        go false false s h = refl

    pub mask-marked : (j : ℕ) → j < 4
        → first_of (of EmptyPlace empty ∷ of StoreRedirection redirected ∷ []) j ≡ pending_class image table note quiet i j Mask j
    unfolding pending_class is_unused is_dead_value
    mask-marked j l =
        rw (
          empty-is j,
          redirected-is j,
          mask-clear j l,
          lanes-are j l,
          address-is j,
          place-before (λ k. is_met_harmless image table note i (4 + k)) j l,
          mask-redirected j l,
        ) (of-mask (store.mask == 0) quiet (spared (4 * store.addr + j)))

    of-address : (z q h m : Bool) → (if z && true then UnAce EmptyPlace else if q && (false || (not z && h && m)) then UnAce StoreRedirection else Ace)
        ≡ (if z then UnAce EmptyPlace else if q && false then UnAce DeadData else if q && (h && m) then UnAce StoreRedirection else Ace)
    of-address true q h m = refl
    of-address false true true true = refl
    of-address false true true false = refl
    of-address false true false m = refl
    of-address false false h m = refl

    pub address-marked : (j : ℕ) → j < 30
        → first_of (of EmptyPlace empty ∷ of StoreRedirection redirected ∷ []) (4 + j) ≡ pending_class image table note quiet i (4 + j) Addr j
    unfolding pending_class is_unused is_dead_value
    address-marked j l =
        rw (
          empty-is (4 + j),
          redirected-is (4 + j),
          address-set j l,
          no-lanes (4 + j) (omega arith),
          address-is (4 + j),
          place-here (λ k. is_met_harmless image table note i (4 + k)) j l,
          address-redirected j l,
        )
        (of-address (store.mask == 0) quiet (is_left_harmless image table note i) (is_met_harmless image table note i (4 + j)))

-- ---- the classes

module _ (a : Moment) (table : Needs) (note : Note) (quiet : Bool) (known : IsKnown a table note quiet) (i : ℕ) (few : i < 4) where
  mask-class : (j : ℕ) → j < 4 → HasClass a Sb (66 * i + j) (pending_class a.r.image table note quiet i j Mask j)
  mask-class j l =
      pending-class a.r.image a table note quiet known refl i few (66 * i + j) j (omega (arith, l)) (omega (arith, l)) Mask j (mask-at j l)
      (omega (arith, l)) (omega (arith, l))

  address-class : (j : ℕ) → j < 30 → HasClass a Sb (66 * i + (4 + j)) (pending_class a.r.image table note quiet i (4 + j) Addr j)
  address-class j l =
      pending-class a.r.image a table note quiet known refl i few (66 * i + (4 + j)) (4 + j) (omega (arith, l)) (omega (arith, l)) Addr j
      (address-at j l) (omega (arith, l)) (omega (arith, l))

  -- by masks that give them
  pub target-class : (masks : List RuleMask) → ((j : ℕ) → j < 4 → first_of masks j ≡ pending_class a.r.image table note quiet i j Mask j)
      → ((j : ℕ) → j < 30 → first_of masks (4 + j) ≡ pending_class a.r.image table note quiet i (4 + j) Addr j) → (k : ℕ) → k < 34
      → HasClass a Sb (66 * i + k) (first_of masks k)
  target-class masks mask address k l =
      elim (cases_lt k 4) [
        | inl front ↦ rw (mask k front) (mask-class k front)
        | inr behind ↦
            let e : 4 + (k - 4) ≡ k = omega (arith, behind) in
            let below : k - 4 < 30 = omega (arith, behind, l) in
            subst (λ (n : ℕ). HasClass a Sb (66 * i + n) (first_of masks n)) e (rw (address (k - 4) below) (address-class (k - 4) below))
      ]
