-- The laws of a flip for a structure of fields.
use Rattle.std.proofs.Common.{◌≡◌, ◌≢◌, ℕ, zero, suc, ◌-◌, ◌^◌, ◌<◌, ◌≤◌, List, [], ◌∷◌, refl, sym, ◌∙◌, ap, subst, arith, inl, inr, ◌⊎◌}
use Rattle.std.specs.Int.{bit_at}
use Rattle.std.specs.Prelude.{Bool, true, false, not, nat_eq, Option, Some, None, slice_get}
use Rattle.std.proofs.lemmas.Bool.{cases_lt, cases_eq}
use Rattle.std.proofs.lemmas.Nat.Bits.{bit_at-lt, same_from_bits_below}
use Rattle.std.proofs.lemmas.Option.{none-some, same_Some}
use Rattle.bit_field.specs.Laws.{FlipLaws}
use Rattle.bit_field.specs.Layouts.{Layout, AreFit, IsFit, bit_by, bit_count, bit_of, field_of, flip, flip_by, flipped, located, number_of}
use Rattle.bit_field.proofs.Bits.{bit_at-flip_same, bit_at-flip_other, flip_below, flip_twice}
use Rattle.bit_field.proofs.Located.{bit_of_field, is_located, located-here, located-none, located-on, located_within}

-- the fields are numbered in their order
abbrev pub AreNumbered : {F : Type 0} → (F → ℕ) → ℕ → List F → Type 0
AreNumbered number n [] = Unit {0}
AreNumbered number n (f ∷ fs) = (number f ≡ n) × AreNumbered number (suc n) fs

-- The fields are apart from each other and make up the structure.
pub record IsMadeUp {S F : Type 0} (l : Layout S F) (number : F → ℕ) : Type 0 where
  pub numbered : AreNumbered number 0 l.fields
  pub each : (f : F) → slice_get l.fields (number f) ≡ Some f
  pub changes : (x : S) (f : F) (i : ℕ) → i < l.width f → l.value (l.flip_in x f i) f ≡ flip (l.value x f) i
  pub keeps : (x : S) (f g : F) (i : ℕ) → f ≢ g → l.value (l.flip_in x f i) g ≡ l.value x g
  pub same : (x y : S) → ((f : F) → l.value x f ≡ l.value y f) → x ≡ y

-- ---- a field of one bit

pub number_of-flip : (b : Bool) (i : ℕ) → i < 1 → number_of (not b) ≡ flip (number_of b) i
number_of-flip b i l = let e : i ≡ 0 = omega arith in rw e (at_zero b)
  where
    at_zero : (b : Bool) → number_of (not b) ≡ flip (number_of b) 0
    at_zero true = refl
    at_zero false = refl

pub number_of-same : (a b : Bool) → number_of a ≡ number_of b → a ≡ b
number_of-same a b e = sym (is_number_of a) ∙ ap (λ (n : ℕ). nat_eq n 1) e ∙ is_number_of b
  where
    is_number_of : (c : Bool) → nat_eq (number_of c) 1 ≡ c
    is_number_of true = refl
    is_number_of false = refl

-- ---- fields with different numbers

same_number : {S F : Type 0} (l : Layout S F) (number : F → ℕ) → IsMadeUp l number → (f g : F) → number f ≡ number g → f ≡ g
same_number l number made f g e = same_Some f g (sym (made.each f) ∙ ap (λ (n : ℕ). slice_get l.fields n) e ∙ made.each g)

-- f is g or another field
cases_field : {S F : Type 0} (l : Layout S F) (number : F → ℕ) → IsMadeUp l number → (f g : F) → (f ≡ g) ⊎ (f ≢ g)
cases_field l number made f g =
    elim (cases_eq (number f) (number g)) [
      | inl e ↦ inl (same_number l number made f g e)
      | inr ne ↦ inr (λ e. ne (ap number e))
    ]

-- a field found from the n-th on has at least that number
number_from : {F : Type 0} (width number : F → ℕ) (n : ℕ) (fields : List F) (k : ℕ) (p : F × ℕ) → AreNumbered number n fields
    → located width fields k ≡ Some p → n ≤ number p.0
number_from width number n [] k p are is = absurd (none-some p (sym (located-none width k) ∙ is))
number_from {F = F} width number n (f ∷ fs) k p are is =
    elim (cases_lt k (width f)) [
      | inl l ↦ let e : number f ≡ number p.0 =
          ap (λ (q : F × ℕ). number q.0) (same_Some (f, k) p (sym (located-here width f fs k l) ∙ is)) in omega (arith, are.0)
      | inr l ↦ let h : suc n ≤ number p.0 = number_from width number (suc n) fs (k - width f) p are.1 (sym (located-on width f fs k l) ∙ is) in omega arith
    ]

-- two bits with the same field and the same place in it are one
same_place : {F : Type 0} (width number : F → ℕ) (n : ℕ) (fields : List F) (k j : ℕ) (p q : F × ℕ) → AreNumbered number n fields
    → located width fields k ≡ Some p → located width fields j ≡ Some q → number p.0 ≡ number q.0 → p.1 ≡ q.1 → k ≡ j
same_place width number n [] k j p q are is so e same = absurd (none-some p (sym (located-none width k) ∙ is))
same_place {F = F} width number n (f ∷ fs) k j p q are is so e same =
    elim (cases_lt k (width f)) [
      | inl l ↦
          let here : (f, k) ≡ p = same_Some (f, k) p (sym (located-here width f fs k l) ∙ is) in
          elim (cases_lt j (width f)) [
            | inl m ↦
                let there : (f, j) ≡ q = same_Some (f, j) q (sym (located-here width f fs j m) ∙ so) in
                ap (λ (r : F × ℕ). r.1) here ∙ same ∙ sym (ap (λ (r : F × ℕ). r.1) there)
            | inr m ↦
                let first : number f ≡ number p.0 = ap (λ (r : F × ℕ). number r.0) here in
                let later : suc n ≤ number q.0 = number_from width number (suc n) fs (j - width f) q are.1 (sym (located-on width f fs j m) ∙ so) in
                absurd (omega (arith, are.0))
          ]
      | inr l ↦
          elim (cases_lt j (width f)) [
            | inl m ↦
                let there : (f, j) ≡ q = same_Some (f, j) q (sym (located-here width f fs j m) ∙ so) in
                let first : number f ≡ number q.0 = ap (λ (r : F × ℕ). number r.0) there in
                let later : suc n ≤ number p.0 = number_from width number (suc n) fs (k - width f) p are.1 (sym (located-on width f fs k l) ∙ is) in
                absurd (omega (arith, are.0))
            | inr m ↦
                let rest : k - width f ≡ j - width f =
                same_place width number (suc n) fs (k - width f) (j - width f) p q are.1 (sym (located-on width f fs k l) ∙ is)
                (sym (located-on width f fs j m) ∙ so) e same in
                omega arith
          ]
    ]

-- ---- widths

-- the field of a bit holds a number below its width
fit_at : {F : Type 0} (width value : F → ℕ) (fields : List F) (k : ℕ) (p : F × ℕ) → AreFit width value fields → located width fields k ≡ Some p
    → value p.0 < 2 ^ width p.0
fit_at width value [] k p h is = absurd (none-some p (sym (located-none width k) ∙ is))
fit_at {F = F} width value (f ∷ fs) k p h is =
    elim (cases_lt k (width f)) [
      | inl l ↦ subst (λ (q : F × ℕ). value q.0 < 2 ^ width q.0) (same_Some (f, k) p (sym (located-here width f fs k l) ∙ is)) h.0
      | inr l ↦ fit_at width value fs (k - width f) p h.1 (sym (located-on width f fs k l) ∙ is)
    ]

-- and each field that stands among them
fit_of : {F : Type 0} (width value : F → ℕ) (fields : List F) (n : ℕ) (f : F) → AreFit width value fields → slice_get fields n ≡ Some f → value f < 2 ^ width f
fit_of width value [] n f h is = absurd (none-some f is)
fit_of width value (g ∷ fs) zero f h is = let e : g ≡ f = same_Some g f is in subst (λ f. value f < 2 ^ width f) e h.0
fit_of width value (g ∷ fs) (suc n) f h is = fit_of width value fs n f h.1 is

are_fit : {F : Type 0} (width value : F → ℕ) (fields : List F) → ((f : F) → value f < 2 ^ width f) → AreFit width value fields
are_fit width value [] h = tt
are_fit width value (f ∷ fs) h = (h f, are_fit width value fs h)

-- ---- at a bit whose field is known, for those who use a structure as well

pub flipped-at : {S F : Type 0} (l : Layout S F) (x : S) (k : ℕ) (p : F × ℕ) → field_of l k ≡ Some p → flipped l x k ≡ l.flip_in x p.0 p.1
flipped-at l x k p is = ap (flip_by (l.flip_in x) x) is

pub bit_of-at : {S F : Type 0} (l : Layout S F) (x : S) (k : ℕ) (p : F × ℕ) → field_of l k ≡ Some p → bit_of l x k ≡ bit_at (l.value x p.0) p.1
bit_of-at l x k p is = ap (bit_by (l.value x)) is

bit_by_is_bit : {F : Type 0} (value : F → ℕ) (o : Option (F × ℕ)) → bit_by value o < 2
bit_by_is_bit value None = omega arith
bit_by_is_bit value (Some p) = bit_at-lt (value p.0) p.1

flip_fits : {S F : Type 0} (l : Layout S F) (number : F → ℕ) → IsMadeUp l number → (x : S) (f : F) (i : ℕ) → IsFit l x → i < l.width f
    → IsFit l (l.flip_in x f i)
flip_fits l number made x f i h m = are_fit l.width (l.value (l.flip_in x f i)) l.fields (λ g.
    let below : l.value x g < 2 ^ l.width g = fit_of l.width (l.value x) l.fields (number g) g h (made.each g) in
    elim (cases_field l number made f g) [
      | inl e ↦
          subst (λ g. l.value (l.flip_in x f i) g < 2 ^ l.width g) e
          (rw (made.changes x f i m) (flip_below (l.value x f) i (l.width f) (fit_of l.width (l.value x) l.fields (number f) f h (made.each f)) m))
      | inr ne ↦ rw (made.keeps x f g i ne) below
    ])

flip_restores : {S F : Type 0} (l : Layout S F) (number : F → ℕ) → IsMadeUp l number → (x : S) (f : F) (i : ℕ) → i < l.width f
    → l.flip_in (l.flip_in x f i) f i ≡ x
flip_restores l number made x f i m = made.same _ x (λ g.
    elim (cases_field l number made f g) [
      | inl e ↦
          subst (λ g. l.value (l.flip_in (l.flip_in x f i) f i) g ≡ l.value x g) e
          (made.changes (l.flip_in x f i) f i m ∙ ap (λ (v : ℕ). flip v i) (made.changes x f i m) ∙ flip_twice (l.value x f) i)
      | inr ne ↦ made.keeps (l.flip_in x f i) f g i ne ∙ made.keeps x f g i ne
    ])

flip_other : {S F : Type 0} (l : Layout S F) (number : F → ℕ) → IsMadeUp l number → (x : S) (k j : ℕ) (p q : F × ℕ) → field_of l k ≡ Some p
    → field_of l j ≡ Some q → j ≢ k → bit_at (l.value (l.flip_in x p.0 p.1) q.0) q.1 ≡ bit_at (l.value x q.0) q.1
flip_other l number made x k j p q is so ne =
    elim (cases_field l number made p.0 q.0) [
      | inl e ↦
          let apart : q.1 ≢ p.1 = λ same. ne (same_place l.width number 0 l.fields j k q p made.numbered so is (sym (ap number e)) same) in
          let there : l.value (l.flip_in x p.0 p.1) q.0 ≡ flip (l.value x q.0) p.1 =
          subst (λ g. l.value (l.flip_in x p.0 p.1) g ≡ flip (l.value x g) p.1) e (made.changes x p.0 p.1 (located_within l.width l.fields k p is)) in
          ap (λ (v : ℕ). bit_at v q.1) there ∙ bit_at-flip_other (l.value x q.0) p.1 q.1 apart
      | inr other ↦ ap (λ (v : ℕ). bit_at v q.1) (made.keeps x p.0 q.0 p.1 other)
    ]

flip_same : {S F : Type 0} (l : Layout S F) (number : F → ℕ) → IsMadeUp l number → (x : S) (f : F) (i : ℕ) → i < l.width f
    → bit_at (l.value (l.flip_in x f i) f) i ≡ 1 - bit_at (l.value x f) i
flip_same l number made x f i m = ap (λ (v : ℕ). bit_at v i) (made.changes x f i m) ∙ bit_at-flip_same (l.value x f) i

same_fields : {S F : Type 0} (l : Layout S F) (number : F → ℕ) → IsMadeUp l number → (x y : S) → IsFit l x → IsFit l y
    → ((k : ℕ) → k < bit_count l → bit_of l x k ≡ bit_of l y k) → x ≡ y
same_fields l number made x y h i bits = made.same x y (λ f.
    same_from_bits_below (l.width f) (l.value x f) (l.value y f) (fit_of l.width (l.value x) l.fields (number f) f h (made.each f))
    (fit_of l.width (l.value y) l.fields (number f) f i (made.each f)) (λ j m.
    let (k, below, is) = bit_of_field l.width l.fields (number f) f j (made.each f) m in
    sym (bit_of-at l x k (f, j) is) ∙ bits k below ∙ bit_of-at l y k (f, j) is))

-- a structure that its fields make up
pub laws_of_layout : {S F : Type 0} (l : Layout S F) (number : F → ℕ) → IsMadeUp l number → FlipLaws (IsFit l) (λ _. bit_count l) (bit_of l) (flipped l)
laws_of_layout l number made = record {
  fit_stays = λ x k h m.
      let (p, is) = is_located l.width l.fields k m in
      rw (flipped-at l x k p is) (flip_fits l number made x p.0 p.1 h (located_within l.width l.fields k p is));
  count_stays = λ x k h m. refl;
  is_bit = λ x k. bit_by_is_bit (l.value x) (field_of l k);
  flips_it = λ x k h m.
      let (p, is) = is_located l.width l.fields k m in
      bit_of-at l (flipped l x k) k p is
      ∙ ap (λ y. bit_at (l.value y p.0) p.1) (flipped-at l x k p is)
      ∙ flip_same l number made x p.0 p.1 (located_within l.width l.fields k p is)
      ∙ ap (λ (b : ℕ). 1 - b) (sym (bit_of-at l x k p is));
  flips_no_other = λ x k j h m n ne.
      let (p, is) = is_located l.width l.fields k m in
      let (q, so) = is_located l.width l.fields j n in
      bit_of-at l (flipped l x k) j q so
      ∙ ap (λ y. bit_at (l.value y q.0) q.1) (flipped-at l x k p is)
      ∙ flip_other l number made x k j p q is so ne
      ∙ sym (bit_of-at l x j q so);
  restores = λ x k h m.
      let (p, is) = is_located l.width l.fields k m in
      flipped-at l (flipped l x k) k p is
      ∙ ap (λ y. l.flip_in y p.0 p.1) (flipped-at l x k p is)
      ∙ flip_restores l number made x p.0 p.1 (located_within l.width l.fields k p is);
  same = λ x y h i c bits. same_fields l number made x y h i bits;
}
