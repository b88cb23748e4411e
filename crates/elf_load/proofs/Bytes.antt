-- What segments that share no address put at an address doesn't depend on their order.
use Rattle.std.proofs.Common.{◌≡◌, ℕ, ◌+◌, ◌-◌, Bool, true, false, cond, ◌&&◌, List, [], ◌∷◌, slice_index, refl, sym, ◌∙◌, arith}
use Rattle.std.specs.List.{list_any, sum_by}
use Rattle.std.specs.List.Sorted.{IsPermutation}
use Rattle.std.proofs.lemmas.Bool.{or_parts}
use Rattle.std.proofs.lemmas.Bool.Decides.{nat_tests}
use Rattle.std.proofs.lemmas.List.Sums.{sum_by-cons}
use Rattle.std.proofs.lemmas.List.Sorted.{sum_by-IsPermutation, list_any-IsPermutation}
use Rattle.elf_load.specs.Headers.{LoadSegment}
use Rattle.elf_load.specs.Meaning.{holds, byte_in, code_in}
use Rattle.elf_load.specs.Refusal.{overlaps, some_overlap}
use Rattle.elf_load.proofs.Overlap.{some_overlap-IsPermutation}

-- what a segment puts at an address, 0 where it doesn't hold it
unfoldable pub share : ℕ → LoadSegment → ℕ
share a s = cond (holds s a) (slice_index s.bytes (a - s.vaddr)) 0

pub share-no : (a : ℕ) (s : LoadSegment) → holds s a ≡ false → share a s ≡ 0
unfolding share
share-no a s h = rw h refl

pub share-yes : (a : ℕ) (s : LoadSegment) → holds s a ≡ true → share a s ≡ slice_index s.bytes (a - s.vaddr)
unfolding share
share-yes a s h = rw h refl

-- two that hold an address overlap
apart-holds : (s t : LoadSegment) (a : ℕ) → holds s a ≡ true → overlaps s t ≡ false → holds t a ≡ false
unfolding holds overlaps
apart-holds s t a h e = grind (arith, nat_tests)

others : (s : LoadSegment) (a : ℕ) (xs : List LoadSegment) → holds s a ≡ true → list_any (overlaps s) xs ≡ false → sum_by (share a) xs ≡ 0
others s a [] h e = refl
others s a (t ∷ xs) h e =
    let parts : (overlaps s t ≡ false) × (list_any (overlaps s) xs ≡ false) = or_parts _ _ e in
    let here : share a t ≡ 0 = share-no a t (apart-holds s t a h parts.0) in
    let rest : sum_by (share a) xs ≡ 0 = others s a xs h parts.1 in
    let all : sum_by (share a) (t ∷ xs) ≡ share a t + sum_by (share a) xs = sum_by-cons (share a) t xs in
    omega (arith, here, rest, all)

pub byte_in-sum : (a : ℕ) (xs : List LoadSegment) → some_overlap xs ≡ false → byte_in xs a ≡ sum_by (share a) xs
unfolding byte_in some_overlap
byte_in-sum a [] e = refl
byte_in-sum a (s ∷ xs) e =
    let parts : (list_any (overlaps s) xs ≡ false) × (some_overlap xs ≡ false) = or_parts _ _ e in
    let rest : byte_in xs a ≡ sum_by (share a) xs = byte_in-sum a xs parts.1 in
    let all : sum_by (share a) (s ∷ xs) ≡ share a s + sum_by (share a) xs = sum_by-cons (share a) s xs in
    one (holds s a) (slice_index s.bytes (a - s.vaddr)) (byte_in xs a) _ _ _ refl (λ h. share-yes a s h) (λ h. share-no a s h)
    (λ h. others s a xs h parts.0) rest all
  where
    one : (h : Bool) (x y p r all : ℕ) → p ≡ p → (h ≡ true → p ≡ x) → (h ≡ false → p ≡ 0) → (h ≡ true → r ≡ 0) → y ≡ r → all ≡ p + r → cond h x y ≡ all
    one true x y p r all q f g o e u = omega (arith, f refl, o refl)
    one false x y p r all q f g o e u = omega (arith, g refl)

pub byte_in-IsPermutation : (xs ys : List LoadSegment) → IsPermutation xs ys → some_overlap xs ≡ false → (a : ℕ) → byte_in xs a ≡ byte_in ys a
byte_in-IsPermutation xs ys p e a =
    let there : some_overlap ys ≡ false = sym (some_overlap-IsPermutation xs ys p) ∙ e in
    byte_in-sum a xs e ∙ sym (sum_by-IsPermutation (share a) xs ys p) ∙ sym (byte_in-sum a ys there)

pub code_in-IsPermutation : (xs ys : List LoadSegment) → IsPermutation xs ys → (a : ℕ) → code_in xs a ≡ code_in ys a
unfolding code_in
code_in-IsPermutation xs ys p a = list_any-IsPermutation (λ s. s.exec && holds s a) xs ys p
