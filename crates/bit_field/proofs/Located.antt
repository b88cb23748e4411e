-- Which of some fields holds a bit.
use Rattle.std.proofs.Common.{◌≡◌, ℕ, zero, suc, ◌+◌, ◌-◌, ◌<◌, ◌≤◌, List, [], ◌∷◌, length, drop, get_or, refl, sym, ◌∙◌, ap, subst, arith, inl, inr}
use Rattle.std.specs.Prelude.{Some, None, slice_get}
use Rattle.std.proofs.lemmas.Option.{none-some, same_Some}
use Rattle.std.proofs.lemmas.Bool.{cases_lt}
use Rattle.std.proofs.lemmas.Bool.Decides.{nat_tests}
use Rattle.std.proofs.lemmas.List.{drop_more, drop_all}
use Rattle.bit_field.specs.Layouts.{bits_of, located}

pub located-here : {F : Type 0} (width : F → ℕ) (f : F) (fs : List F) (k : ℕ) → k < width f → located width (f ∷ fs) k ≡ Some (f, k)
unfolding located
located-here width f fs k l = grind (arith, nat_tests)

pub located-on : {F : Type 0} (width : F → ℕ) (f : F) (fs : List F) (k : ℕ) → width f ≤ k → located width (f ∷ fs) k ≡ located width fs (k - width f)
unfolding located
located-on width f fs k l = grind (arith, nat_tests)

pub located-none : {F : Type 0} (width : F → ℕ) (k : ℕ) → located width [] k ≡ None
unfolding located
located-none width k = refl

-- the bit is one of the field's own
pub located_within : {F : Type 0} (width : F → ℕ) (fields : List F) (k : ℕ) (p : F × ℕ) → located width fields k ≡ Some p → p.1 < width p.0
located_within width [] k p is = absurd (none-some p (sym (located-none width k) ∙ is))
located_within {F = F} width (f ∷ fs) k p is =
    elim (cases_lt k (width f)) [
      | inl l ↦ subst (λ (q : F × ℕ). q.1 < width q.0) (same_Some (f, k) p (sym (located-here width f fs k l) ∙ is)) l
      | inr l ↦ located_within width fs (k - width f) p (sym (located-on width f fs k l) ∙ is)
    ]

-- each bit below their number has a field
pub is_located : {F : Type 0} (width : F → ℕ) (fields : List F) (k : ℕ) → k < bits_of width fields → (p : F × ℕ) × (located width fields k ≡ Some p)
is_located width [] k l = absurd (omega arith)
is_located width (f ∷ fs) k l =
    elim (cases_lt k (width f)) [
      | inl m ↦ ((f, k), located-here width f fs k m)
      | inr m ↦ let (p, e) = is_located width fs (k - width f) (omega arith) in (p, located-on width f fs k m ∙ e)
    ]

-- and each bit of a field is one of theirs
pub bit_of_field : {F : Type 0} (width : F → ℕ) (fields : List F) (n : ℕ) (f : F) (i : ℕ) → slice_get fields n ≡ Some f → i < width f
    → (k : ℕ) × (k < bits_of width fields) × (located width fields k ≡ Some (f, i))
bit_of_field width [] n f i is l = absurd (none-some f is)
bit_of_field width (g ∷ fs) zero f i is l =
    let e : g ≡ f = same_Some g f is in
    let m : i < width g = subst (λ h. i < width h) (sym e) l in
    (i, omega arith, located-here width g fs i m ∙ ap (λ h. Some (h, i)) e)
bit_of_field width (g ∷ fs) (suc n) f i is l =
    let (k, m, e) = bit_of_field width fs n f i is l in
    let back : width g + k - width g ≡ k = omega arith in
    (width g + k, omega arith, located-on width g fs (width g + k) (omega arith) ∙ ap (located width fs) back ∙ e)

-- ---- the search, field by field: before field i, bit k is bit `place` of the fields that are left

pub record IsSearched {F : Type 0} (width : F → ℕ) (fields : List F) (k i place : ℕ) : Type 0 where
  pub same : located width fields k ≡ located width (drop i fields) place
  pub within : place < bits_of width (drop i fields)

pub search-found : {F : Type 0} (width : F → ℕ) (fields : List F) (k i place : ℕ) (f : F) → i < length fields → f ≡ get_or fields i f
    → IsSearched width fields k i place → place < width f → located width fields k ≡ Some (f, place)
search-found width fields k i place f l is h m =
    h.same
    ∙ ap (λ fs. located width fs place) (drop_more fields i f l ∙ ap (λ g. g ∷ drop (i + 1) fields) (sym is))
    ∙ located-here width f (drop (i + 1) fields) place m

pub search-on : {F : Type 0} (width : F → ℕ) (fields : List F) (k i place : ℕ) (f : F) → i < length fields → f ≡ get_or fields i f
    → IsSearched width fields k i place → width f ≤ place → IsSearched width fields k (i + 1) (place - width f)
search-on width fields k i place f l is h m =
    let left : drop i fields ≡ f ∷ drop (i + 1) fields = drop_more fields i f l ∙ ap (λ g. g ∷ drop (i + 1) fields) (sym is) in
    let within : place < width f + bits_of width (drop (i + 1) fields) = subst (λ fs. place < bits_of width fs) left h.within in
    record {
      same = h.same ∙ ap (λ fs. located width fs place) left ∙ located-on width f (drop (i + 1) fields) place m;
      within = omega arith;
    }

pub search-ends : {F : Type 0} (width : F → ℕ) (fields : List F) (k i place : ℕ) → length fields ≤ i → IsSearched width fields k i place → ⊥
search-ends width fields k i place l h =
    let within : place < bits_of width [] = subst (λ fs. place < bits_of width fs) (drop_all i fields l) h.within in
    omega arith
