-- The classes of the bits of a slot of the instruction buffer by masks.
use Rattle.std.proofs.Common.{◌≡◌, ℕ, ◌+◌, ◌-◌, ◌*◌, ◌%◌, ◌^◌, ◌<◌, ◌≤◌, ◌==◌, ◌&&◌, ◌||◌, not, Bool, true, false, cond, List, [], ◌∷◌, refl, sym, ap, ◌∙◌, subst, arith, inl, inr}
use Rattle.std.specs.Prelude.{Option, None, Some, slice_get, unwrap_or, bit_and, bit_or, bit_xor, nat_le, nat_lt, if◌then◌else◌}
use Rattle.std.proofs.lemmas.Option.{same_Some}
use Rattle.std.proofs.lemmas.Bool.{agree_below, cases_Bool}
use Rattle.std.proofs.Math.Bool.{and-false}
use Rattle.std.proofs.lemmas.Bool.Decides.{nat_tests}
use Rattle.std.proofs.lemmas.Nat.Bits.{bit_at_ones}
use Rattle.bit_field.specs.Layouts.{located}
use Rattle.bit_field.proofs.Located.{located-here, located-on}
use Rattle.bit_field.proofs.Low.{bit_at-shl_high, bit_at-shl_low}
use Rattle.inst_buf.specs.EntryBits as entry
use Rattle.inst_buf.specs.declared.slots.SlotField.{SlotField}
use Rattle.inst_buf.specs.declared.slots.SlotField.TheVariants.{Valid, Pc, Word}
use Rattle.ace_class.specs.declared.class.Rule.TheVariants.{EmptyPlace, Masked, OnPath, WrongPath}
use Rattle.ace_rules.specs.FetchedTests.{fetched_tests, has_bit, is_masked, is_masked_in, is_off_path, is_on_path, is_place, is_slot_valid, is_waiting, is_wrong}
use Rattle.ace_rules.specs.FetchedTests.{is_zero_next, number_of_slot}
use Rattle.ace_rules.specs.FirstRules.{class_by, no_rule}
use Rattle.ace_rules.specs.PipelineTests.{becomes_next}
use Rattle.ace_rules.specs.RuleMasks.{first_of, is_next_bit, is_set}
use Rattle.ace_rules.specs.declared.note.Note.{Note}
use Rattle.ace_rules.specs.declared.tally_fetched.TheConstants.{SLOT_MASK, SLOT_PLACE, SLOT_UNUSED, SLOT_VALID}
use Rattle.ace_rules.proofs.DecodedMarks.{in-three, not-is, out-three}
use Rattle.ace_rules.proofs.FirstMasks.{is_rest}
use Rattle.ace_rules.proofs.LatchMarks.{of}
use Rattle.ace_rules.proofs.MarkedBits.{in_field, marks, when-set}
use Rattle.ace_rules.proofs.NextBits.{set-or, set-zero}

-- ---- which fields the masks mark

is_pc : SlotField → Bool
is_pc Pc = true
is_pc _ = false

is_word : SlotField → Bool
is_word Word = true
is_word _ = false

says_where : SlotField → Bool
says_where Valid = true
says_where Pc = true
says_where _ = false

valid-tried : agree_below (is_set SLOT_VALID) (λ k. in_field is_slot_valid (entry.field_of k)) 64 ≡ true
unfolding located
valid-tried = refl

unused-tried : agree_below (is_set SLOT_UNUSED) (λ k. in_field (λ f. not (is_slot_valid f)) (entry.field_of k)) 64 ≡ true
unfolding located
unused-tried = refl

place-tried : agree_below (is_set SLOT_PLACE) (λ k. in_field says_where (entry.field_of k)) 64 ≡ true
unfolding located says_where
place-tried = refl

pc-tried : agree_below (λ k. nat_le 2 k && nat_lt k 32) (λ k. in_field is_pc (entry.field_of k)) 64 ≡ true
unfolding located is_pc
pc-tried = refl

word-tried : agree_below (nat_le 32) (λ k. in_field is_word (entry.field_of k)) 64 ≡ true
unfolding located is_word
word-tried = refl

-- ---- the places of the bits in their fields

pc-at : (k : ℕ) → 2 ≤ k → k < 32 → entry.field_of k ≡ Some (Pc, k - 2)
pc-at k l m =
    let e : k - 1 - 1 ≡ k - 2 = omega arith in
    located-on entry.width _ _ k (omega (arith, l)) ∙ located-on entry.width _ _ (k - 1) (omega (arith, l))
    ∙ located-here entry.width Pc _ (k - 1 - 1) (omega (arith, l, m)) ∙ ap (λ (n : ℕ). Some (Pc, n)) e

word-at : (k : ℕ) → 32 ≤ k → k < 64 → entry.field_of k ≡ Some (Word, k - 32)
word-at k l m =
    let e : k - 1 - 1 - 30 ≡ k - 32 = omega arith in
    located-on entry.width _ _ k (omega (arith, l)) ∙ located-on entry.width _ _ (k - 1) (omega (arith, l))
    ∙ located-on entry.width _ _ (k - 1 - 1) (omega (arith, l))
    ∙ located-here entry.width Word _ (k - 1 - 1 - 30) (omega (arith, l, m)) ∙ ap (λ (n : ℕ). Some (Word, n)) e

in-range : (k : ℕ) → (nat_le 2 k && nat_lt k 32) ≡ true → (2 ≤ k) × (k < 32)
in-range k e = (grind (arith, nat_tests), grind (arith, nat_tests))

-- ---- each rule's bits

wrong-other : (note : Note) (i : ℕ) (f : SlotField) (j : ℕ) → is_pc f ≡ false → is_wrong note i f j ≡ true
unfolding is_wrong is_pc
wrong-other note i Pc j p = absurd cc
wrong-other note i _ j p = refl

wrong-pc : (note : Note) (i j : ℕ) → is_wrong note i Pc j ≡ not (number_of_slot note i == note.on_path && becomes_next note j)
unfolding is_wrong
wrong-pc note i j = refl

masked-other : (note : Note) (words : List ℕ) (i : ℕ) (f : SlotField) (j : ℕ) → is_word f ≡ false → is_masked note words i f j ≡ false
unfolding is_masked is_word
masked-other note words i Word j p = absurd cc
masked-other note words i _ j p = refl

masked-word : (note : Note) (words : List ℕ) (i j : ℕ)
    → is_masked note words i Word j ≡ (is_on_path note i && is_masked_in words (note.executed + number_of_slot note i) j)
unfolding is_masked
masked-word note words i j = refl

place-of : (note : Note) (i : ℕ) (f : SlotField) → is_place note i f
    ≡ ((is_on_path note i && says_where f) || (not (is_waiting note i) && (not (is_zero_next note) && is_slot_valid f)))
unfolding is_place says_where
place-of note i Valid = go (is_on_path note i) (not (is_waiting note i)) (not (is_zero_next note))
  where
    go : (a b c : Bool) → (a || (b && c)) ≡ ((a && true) || (b && (c && true)))
    go true b c = refl
    go false true true = refl
    go false true false = refl
    go false false c = refl
place-of note i Pc = go (is_on_path note i) (not (is_waiting note i)) (not (is_zero_next note))
  where
    go : (a b c : Bool) → a ≡ ((a && true) || (b && (c && false)))
    go true b c = refl
    go false true true = refl
    go false true false = refl
    go false false c = refl
place-of note i _ = go (is_on_path note i) (not (is_waiting note i)) (not (is_zero_next note))
  where
    go : (a b c : Bool) → false ≡ ((a && false) || (b && (c && false)))
    go true true true = refl
    go true true false = refl
    go true false c = refl
    go false true true = refl
    go false true false = refl
    go false false c = refl

mask-at : (o : Option ℕ) (j : ℕ) → is_set (unwrap_or o 0) j ≡ has_bit o j
mask-at None j = set-zero j
mask-at (Some mask) j = refl

-- the bits of a mask that stands in the last 32
word-set : (words : List ℕ) (x mask word b : ℕ) → mask ≡ unwrap_or (slice_get words x) 0 → mask < 2 ^ 32 → word ≡ mask * 2 ^ 32 % 2 ^ 128
    → is_set word b ≡ (nat_le 32 b && is_masked_in words x (b - 32))
unfolding is_masked_in
word-set words x mask word b is small e = go (nat_le 32 b) refl
  where
    fits : word ≡ mask * 2 ^ 32
    fits = omega (arith, e, small)

    go : (t : Bool) → nat_le 32 b ≡ t → is_set word b ≡ (t && has_bit (slice_get words x) (b - 32))
    go true h =
        let l : 32 ≤ b = grind (arith, nat_tests) in
        ap (λ (n : ℕ). is_set n b) fits ∙ ap (λ (n : ℕ). n == 1) (bit_at-shl_high mask 32 b l) ∙ ap (λ (n : ℕ). is_set n (b - 32)) is
        ∙ mask-at (slice_get words x) (b - 32)
    go false h =
        let l : b < 32 = grind (arith, nat_tests) in
        ap (λ (n : ℕ). is_set n b) fits ∙ ap (λ (n : ℕ). n == 1) (bit_at-shl_low mask 32 b l)

module _ (note : Note) (i b : ℕ) (place : SlotField × ℕ) (l : b < 64) (at : entry.field_of b ≡ Some place) where
  all-set : is_set SLOT_MASK b ≡ true
  all-set = let e : is_set (2 ^ 64 - 1) b ≡ true = (let h = bit_at_ones 64 b l in grind (arith, nat_tests)) in e

  not-next : cond (number_of_slot note i == note.on_path && is_next_bit note 2 b) false true ≡ is_wrong note i place.0 place.1
  not-next = elim (cases_Bool (nat_le 2 b && nat_lt b 32)) [
    | inl inside ↦
        let within = in-range b inside in
        let same : (Pc, b - 2) ≡ place = same_Some (Pc, b - 2) place (sym (pc-at b within.0 within.1) ∙ at) in
        subst (λ (p : SlotField × ℕ). cond (number_of_slot note i == note.on_path && is_next_bit note 2 b) false true ≡ is_wrong note i p.0 p.1) same
        (ap (λ (x : Bool). cond (number_of_slot note i == note.on_path && x) false true)
        (in-three (nat_le 2 b) (nat_lt b 32) (becomes_next note (b - 2)) inside)
        ∙ not-is (number_of_slot note i == note.on_path && becomes_next note (b - 2)) ∙ sym (wrong-pc note i (b - 2)))
    | inr outside ↦
        let other : is_pc place.0 ≡ false = sym (marks is_pc entry.field_of (λ k. nat_le 2 k && nat_lt k 32) 64 pc-tried b place l at) ∙ outside in
        ap (λ (x : Bool). cond (number_of_slot note i == note.on_path && x) false true)
        (out-three (nat_le 2 b) (nat_lt b 32) (becomes_next note (b - 2)) outside)
        ∙ ap (λ (x : Bool). cond x false true) (and-false (number_of_slot note i == note.on_path)) ∙ sym (wrong-other note i place.0 place.1 other)
  ]

  pub wrong-set : (bits next wrong : ℕ) → is_set bits b ≡ is_next_bit note 2 b
      → next ≡ (if number_of_slot note i == note.on_path then bits else 0) → wrong ≡ bit_xor SLOT_MASK (bit_and SLOT_MASK next)
      → is_set wrong b ≡ is_wrong note i place.0 place.1
  wrong-set bits next wrong is n w =
      ap (λ (x : ℕ). is_set x b) w ∙ is_rest SLOT_MASK next b
      ∙ rw (all-set, n, when-set (number_of_slot note i == note.on_path) bits b, is) not-next

  pub place-set : (on idle where_is : ℕ) → on ≡ (if is_on_path note i then SLOT_PLACE else 0)
      → idle ≡ (if not (is_waiting note i) then where_is else 0) → where_is ≡ (if not (is_zero_next note) then SLOT_VALID else 0)
      → is_set (bit_or on idle) b ≡ is_place note i place.0
  place-set on idle where_is o d w =
      set-or on idle b
      ∙ rw (
        o,
        d,
        w,
        when-set (is_on_path note i) SLOT_PLACE b,
        when-set (not (is_waiting note i)) (if not (is_zero_next note) then SLOT_VALID else 0) b,
        when-set (not (is_zero_next note)) SLOT_VALID b,
        marks says_where entry.field_of (is_set SLOT_PLACE) 64 place-tried b place l at,
        marks is_slot_valid entry.field_of (is_set SLOT_VALID) 64 valid-tried b place l at,
      )
      (sym (place-of note i place.0))

  masked-by : (words : List ℕ) → (is_on_path note i && (nat_le 32 b && is_masked_in words (note.executed + number_of_slot note i) (b - 32)))
      ≡ is_masked note words i place.0 place.1
  masked-by words = elim (cases_Bool (nat_le 32 b)) [
    | inl inside ↦
        let low : 32 ≤ b = grind (arith, nat_tests) in
        let same : (Word, b - 32) ≡ place = same_Some (Word, b - 32) place (sym (word-at b low l) ∙ at) in
        subst (λ (p : SlotField × ℕ). (is_on_path note i && (nat_le 32 b && is_masked_in words (note.executed + number_of_slot note i) (b - 32))) ≡ is_masked note words i p.0 p.1) same
        (rw inside (sym (masked-word note words i (b - 32))))
    | inr outside ↦
        let other : is_word place.0 ≡ false = sym (marks is_word entry.field_of (nat_le 32) 64 word-tried b place l at) ∙ outside in
        rw outside (and-false (is_on_path note i) ∙ sym (masked-other note words i place.0 place.1 other))
  ]

  pub masked-set : (words : List ℕ) (x mask word masked : ℕ) → x ≡ note.executed + number_of_slot note i → mask ≡ unwrap_or (slice_get words x) 0
      → mask < 2 ^ 32 → word ≡ mask * 2 ^ 32 % 2 ^ 128
      → masked ≡ (if is_on_path note i then word else 0) → is_set masked b ≡ is_masked note words i place.0 place.1
  masked-set words x mask word masked at_x is small e m =
      rw (m, when-set (is_on_path note i) word b, word-set words x mask word b is small e, at_x) (masked-by words)

  pub fetched-marked : (words : List ℕ) (quiet : Bool) (empty wrong off bits on where_is masked word : ℕ)
      → empty ≡ (if not (is_waiting note i) then SLOT_UNUSED else 0)
      → wrong ≡ (if quiet then off else 0) → off ≡ (if is_off_path note i then bits else 0) → is_set bits b ≡ is_wrong note i place.0 place.1
      → on ≡ (if quiet then where_is else 0) → is_set where_is b ≡ is_place note i place.0
      → masked ≡ (if quiet then word else 0) → is_set word b ≡ is_masked note words i place.0 place.1
      → first_of (of EmptyPlace empty ∷ of WrongPath wrong ∷ of OnPath on ∷ of Masked masked ∷ []) b
      ≡ class_by (fetched_tests note words quiet i place.0 place.1)
  unfolding class_by fetched_tests no_rule
  fetched-marked words quiet empty wrong off bits on where_is masked word e w o bs p ps m ms =
      rw (
        e,
        w,
        o,
        p,
        m,
        when-set (not (is_waiting note i)) SLOT_UNUSED b,
        marks (λ f. not (is_slot_valid f)) entry.field_of (is_set SLOT_UNUSED) 64 unused-tried b place l at,
        when-set quiet (if is_off_path note i then bits else 0) b,
        when-set (is_off_path note i) bits b,
        bs,
        when-set quiet where_is b,
        ps,
        when-set quiet word b,
        ms,
      )
      refl
