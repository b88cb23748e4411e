-- The classes of the bits of ID/EX by masks.
use Rattle.std.proofs.Common.{◌≡◌, ℕ, ◌+◌, ◌-◌, ◌^◌, ◌<◌, ◌≤◌, ◌&&◌, ◌||◌, not, Bool, true, false, cond, [], ◌∷◌, refl, sym, ap, ◌∙◌, subst, arith, inl, inr}
use Rattle.std.specs.Prelude.{Some, bit_and, bit_or, bit_xor, nat_le, nat_lt, if◌then◌else◌}
use Rattle.std.proofs.lemmas.Option.{same_Some}
use Rattle.std.proofs.lemmas.Bool.{agree_below, cases_Bool}
use Rattle.std.proofs.lemmas.Bool.Decides.{nat_tests}
use Rattle.std.proofs.lemmas.Nat.Bits.{bit_at_ones}
use Rattle.std.proofs.Math.Bool.{and-false}
use Rattle.bit_field.specs.Layouts.{located}
use Rattle.bit_field.proofs.Located.{located-here, located-on}
use Rattle.pipe_latch.specs.DecodedBits as idex
use Rattle.pipe_latch.specs.declared.id_ex.IdExField.{IdExField}
use Rattle.pipe_latch.specs.declared.id_ex.IdExField.TheVariants as of_decoded
use Rattle.ace_class.specs.declared.class.Rule.TheVariants.{EmptyPlace, Masked, OnPath, Timing, WrongPath}
use Rattle.ace_rules.specs.FirstRules.{class_by, no_rule}
use Rattle.ace_rules.specs.PipelineTests.{becomes_next, decoded_tests, is_count, is_masked_decoded, is_place_of_decoded, is_unused_decoded, is_wrong_decoded}
use Rattle.ace_rules.specs.RuleMasks.{first_of, is_next_bit, is_set}
use Rattle.ace_rules.specs.declared.note.Note.{Note}
use Rattle.ace_rules.specs.declared.tally_decoded.TheConstants.{DECODED_COUNT, DECODED_IMMEDIATE, DECODED_PLACE, DECODED_UNUSED, DECODED_VALID}
use Rattle.ace_rules.proofs.FirstMasks.{is_rest}
use Rattle.ace_rules.proofs.LatchMarks.{of}
use Rattle.ace_rules.proofs.MarkedBits.{in_field, marks, when-set}
use Rattle.ace_rules.proofs.NextBits.{set-or}

-- ---- which fields the masks mark

is_valid : IdExField → Bool
is_valid of_decoded.Valid = true
is_valid _ = false

is_pc : IdExField → Bool
is_pc of_decoded.Pc = true
is_pc _ = false

says_where : IdExField → Bool
says_where of_decoded.Valid = true
says_where of_decoded.Pc = true
says_where _ = false

valid-tried : agree_below (is_set DECODED_VALID) (λ k. in_field is_valid (idex.field_of k)) 128 ≡ true
unfolding located is_valid
valid-tried = refl

place-tried : agree_below (is_set DECODED_PLACE) (λ k. in_field says_where (idex.field_of k)) 128 ≡ true
unfolding located says_where
place-tried = refl

unused-tried : agree_below (is_set DECODED_UNUSED) (λ k. in_field is_unused_decoded (idex.field_of k)) 128 ≡ true
unfolding located
unused-tried = refl

no-count-tried : agree_below (λ k. false) (λ k. in_field is_count (idex.field_of k)) 128 ≡ true
unfolding located
no-count-tried = refl

pc-tried : agree_below (λ k. nat_le 1 k && nat_lt k 31) (λ k. in_field is_pc (idex.field_of k)) 128 ≡ true
unfolding located is_pc
pc-tried = refl

count-tried : agree_below (is_set DECODED_COUNT) (λ k. in_field is_count (idex.field_of (128 + k))) 25 ≡ true
unfolding located
count-tried = refl

immediate-tried : agree_below (is_set DECODED_IMMEDIATE) (λ k. in_field is_unused_decoded (idex.field_of (128 + k))) 25 ≡ true
unfolding located
immediate-tried = refl

no-place-tried : agree_below (λ k. false) (λ k. in_field says_where (idex.field_of (128 + k))) 25 ≡ true
unfolding located says_where
no-place-tried = refl

-- ---- fields that are told apart so

place-of : (note : Note) (f : IdExField) → is_place_of_decoded note f
    ≡ ((note.decoded_on_path && says_where f) || (not note.decoded && (not note.decoded_next && is_valid f)))
unfolding is_place_of_decoded says_where is_valid
place-of note of_decoded.Valid = go note.decoded_on_path (not note.decoded) (not note.decoded_next)
  where
    go : (a b c : Bool) → (a || (b && c)) ≡ ((a && true) || (b && (c && true)))
    go true b c = refl
    go false true true = refl
    go false true false = refl
    go false false c = refl
place-of note of_decoded.Pc = go note.decoded_on_path (not note.decoded) (not note.decoded_next)
  where
    go : (a b c : Bool) → a ≡ ((a && true) || (b && (c && false)))
    go true b c = refl
    go false true true = refl
    go false true false = refl
    go false false c = refl
place-of note _ = go note.decoded_on_path (not note.decoded) (not note.decoded_next)
  where
    go : (a b c : Bool) → false ≡ ((a && false) || (b && (c && false)))
    go true true true = refl
    go true true false = refl
    go true false c = refl
    go false true true = refl
    go false true false = refl
    go false false c = refl

wrong-other : (note : Note) (f : IdExField) (j : ℕ) → is_pc f ≡ false → is_count f ≡ false → is_wrong_decoded note f j ≡ true
unfolding is_wrong_decoded is_pc
wrong-other note of_decoded.Pc j p c = absurd cc
wrong-other note of_decoded.Count j p c = absurd cc
wrong-other note _ j p c = refl

wrong-high : (note : Note) (f : IdExField) (j : ℕ) → says_where f ≡ false → is_wrong_decoded note f j ≡ is_unused_decoded f
unfolding is_wrong_decoded says_where
wrong-high note of_decoded.Valid j p = absurd cc
wrong-high note of_decoded.Pc j p = absurd cc
wrong-high note _ j p = refl

no-place : (note : Note) (f : IdExField) → says_where f ≡ false → is_place_of_decoded note f ≡ false
unfolding is_place_of_decoded says_where
no-place note of_decoded.Valid p = absurd cc
no-place note of_decoded.Pc p = absurd cc
no-place note _ p = refl

-- ---- the lowest 128 bits

pc-at : (k : ℕ) → 1 ≤ k → k < 31 → idex.field_of k ≡ Some (of_decoded.Pc, k - 1)
pc-at k l m = located-on idex.width _ _ k l ∙ located-here idex.width of_decoded.Pc _ (k - 1) (omega (arith, l, m))

in-range : (k : ℕ) → (nat_le 1 k && nat_lt k 31) ≡ true → (1 ≤ k) × (k < 31)
in-range k e = (grind (arith, nat_tests), grind (arith, nat_tests))

pub in-three : (a b x : Bool) → (a && b) ≡ true → (a && (b && x)) ≡ x
in-three true true x e = refl
in-three true false x e = absurd cc
in-three false b x e = absurd cc

pub out-three : (a b x : Bool) → (a && b) ≡ false → (a && (b && x)) ≡ false
out-three true true x e = absurd cc
out-three true false x e = refl
out-three false b x e = refl

pub not-is : (b : Bool) → cond b false true ≡ not b
not-is true = refl
not-is false = refl

module _ (note : Note) (k : ℕ) (place : IdExField × ℕ) (l : k < 128) (at : idex.field_of k ≡ Some place) where
  all-set : is_set (2 ^ 128 - 1) k ≡ true
  all-set = let e = bit_at_ones 128 k l in grind (arith, nat_tests)

  wrong-low : cond (is_next_bit note 1 k) false true ≡ is_wrong_decoded note place.0 place.1
  unfolding is_wrong_decoded
  wrong-low = elim (cases_Bool (nat_le 1 k && nat_lt k 31)) [
    | inl inside ↦
        let within = in-range k inside in
        let same : (of_decoded.Pc, k - 1) ≡ place = same_Some (of_decoded.Pc, k - 1) place (sym (pc-at k within.0 within.1) ∙ at) in
        subst (λ (p : IdExField × ℕ). cond (is_next_bit note 1 k) false true ≡ is_wrong_decoded note p.0 p.1) same
        (ap (λ (b : Bool). cond b false true) (in-three (nat_le 1 k) (nat_lt k 31) (becomes_next note (k - 1)) inside) ∙ not-is (becomes_next note (k - 1)))
    | inr outside ↦
        let other : is_pc place.0 ≡ false = sym (marks is_pc idex.field_of (λ i. nat_le 1 i && nat_lt i 31) 128 pc-tried k place l at) ∙ outside in
        let no_count : is_count place.0 ≡ false = sym (marks is_count idex.field_of (λ i. false) 128 no-count-tried k place l at) in
        ap (λ (b : Bool). cond b false true) (out-three (nat_le 1 k) (nat_lt k 31) (becomes_next note (k - 1)) outside)
        ∙ sym (wrong-other note place.0 place.1 other no_count)
  ]

  pub others-set : (next : ℕ) → is_set next k ≡ is_next_bit note 1 k
      → is_set (bit_xor (2 ^ 128 - 1) (bit_and (2 ^ 128 - 1) next)) k ≡ is_wrong_decoded note place.0 place.1
  others-set next is = is_rest (2 ^ 128 - 1) next k ∙ rw (all-set, is) wrong-low

  pub place-set : (on idle where_is : ℕ) → on ≡ (if note.decoded_on_path then DECODED_PLACE else 0)
      → idle ≡ (if not note.decoded then where_is else 0) → where_is ≡ (if not note.decoded_next then DECODED_VALID else 0)
      → is_set (bit_or on idle) k ≡ is_place_of_decoded note place.0
  place-set on idle where_is is_on is_idle is_where =
      set-or on idle k
      ∙ rw (
        is_on,
        is_idle,
        is_where,
        when-set note.decoded_on_path DECODED_PLACE k,
        when-set (not note.decoded) (if not note.decoded_next then DECODED_VALID else 0) k,
        when-set (not note.decoded_next) DECODED_VALID k,
        marks says_where idex.field_of (is_set DECODED_PLACE) 128 place-tried k place l at,
        marks is_valid idex.field_of (is_set DECODED_VALID) 128 valid-tried k place l at,
      )
      (sym (place-of note place.0))

  pub decoded-low : (quiet : Bool) (empty wrong off off_path others on_path masked where_is : ℕ)
      → empty ≡ (if not note.decoded then DECODED_UNUSED else 0)
      → wrong ≡ (if quiet then off else 0) → off ≡ (if note.decoded then off_path else 0) → off_path ≡ (if not note.decoded_on_path then others else 0)
      → is_set others k ≡ is_wrong_decoded note place.0 place.1
      → on_path ≡ (if quiet then where_is else 0) → is_set where_is k ≡ is_place_of_decoded note place.0
      → masked ≡ (if quiet then note.masks.idex_low else 0)
      → first_of (of EmptyPlace empty ∷ of WrongPath wrong ∷ of OnPath on_path ∷ of Masked masked ∷ []) k
      ≡ class_by (decoded_tests note quiet k place.0 place.1)
  unfolding class_by decoded_tests no_rule is_masked_decoded
  decoded-low quiet empty wrong off off_path others on_path masked where_is e w o p s q t m =
      let low : nat_lt k 128 ≡ true = grind (arith, nat_tests) in
      let no_count : is_count place.0 ≡ false = sym (marks is_count idex.field_of (λ i. false) 128 no-count-tried k place l at) in
      rw (
        no_count,
        and-false quiet,
        low,
        e,
        w,
        o,
        p,
        q,
        m,
        when-set (not note.decoded) DECODED_UNUSED k,
        marks is_unused_decoded idex.field_of (is_set DECODED_UNUSED) 128 unused-tried k place l at,
        when-set quiet (if note.decoded then (if not note.decoded_on_path then others else 0) else 0) k,
        when-set note.decoded (if not note.decoded_on_path then others else 0) k,
        when-set (not note.decoded_on_path) others k,
        s,
        when-set quiet where_is k,
        t,
        when-set quiet note.masks.idex_low k,
      )
      refl

-- ---- the bits from 128 on

pub decoded-high : (note : Note) (k : ℕ) (place : IdExField × ℕ) → k < 25 → idex.field_of (128 + k) ≡ Some place → (quiet : Bool)
    (count empty wrong off off_path masked : ℕ) → count ≡ (if quiet then DECODED_COUNT else 0)
    → empty ≡ (if not note.decoded then DECODED_IMMEDIATE else 0)
    → wrong ≡ (if quiet then off else 0) → off ≡ (if note.decoded then off_path else 0)
    → off_path ≡ (if not note.decoded_on_path then DECODED_IMMEDIATE else 0)
    → masked ≡ (if quiet then note.masks.idex_high else 0)
    → first_of (of Timing count ∷ of EmptyPlace empty ∷ of WrongPath wrong ∷ of Masked masked ∷ []) k
    ≡ class_by (decoded_tests note quiet (128 + k) place.0 place.1)
unfolding class_by decoded_tests no_rule is_masked_decoded
decoded-high note k place l at quiet count empty wrong off off_path masked c e w o p m =
    let high : nat_lt (128 + k) 128 ≡ false = grind (arith, nat_tests) in
    let back : 128 + k - 128 ≡ k = omega arith in
    let elsewhere : says_where place.0 ≡ false = sym (marks says_where (λ i. idex.field_of (128 + i)) (λ i. false) 25 no-place-tried k place l at) in
    rw (
      no-place note place.0 elsewhere,
      and-false quiet,
      wrong-high note place.0 place.1 elsewhere,
      high,
      back,
      c,
      e,
      w,
      o,
      p,
      m,
      when-set quiet DECODED_COUNT k,
      marks is_count (λ i. idex.field_of (128 + i)) (is_set DECODED_COUNT) 25 count-tried k place l at,
      when-set (not note.decoded) DECODED_IMMEDIATE k,
      when-set quiet (if note.decoded then (if not note.decoded_on_path then DECODED_IMMEDIATE else 0) else 0) k,
      when-set note.decoded (if not note.decoded_on_path then DECODED_IMMEDIATE else 0) k,
      when-set (not note.decoded_on_path) DECODED_IMMEDIATE k,
      marks is_unused_decoded (λ i. idex.field_of (128 + i)) (is_set DECODED_IMMEDIATE) 25 immediate-tried k place l at,
      when-set quiet note.masks.idex_high k,
    )
    refl
