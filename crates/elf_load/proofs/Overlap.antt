-- Segments that share an address: whether two do depends on no order.
use Rattle.std.proofs.Common.{◌≡◌, ℕ, ◌+◌, ◌*◌, Bool, true, false, cond, ◌||◌, ltb, List, [], ◌∷◌, refl, ap, sym, ◌∙◌, arith}
use Rattle.std.proofs.Math.Path.{fun_ext}
use Rattle.std.specs.List.{list_any, sum_by, count_by}
use Rattle.std.specs.List.Sorted.{IsPermutation}
use Rattle.std.proofs.lemmas.Bool.Decides.{nat_tests}
use Rattle.std.proofs.lemmas.List.Sums.{sum_by-cons}
use Rattle.std.proofs.lemmas.List.Sorted.{sum_by-IsPermutation}
use Rattle.elf_load.specs.Headers.{LoadSegment}
use Rattle.elf_load.specs.Refusal.{overlaps, some_overlap}

pub overlaps-sym : (s t : LoadSegment) → overlaps s t ≡ overlaps t s
unfolding overlaps
overlaps-sym s t = grind (arith, nat_tests)

list_any_count : {X : Type 0} (p : X → Bool) (xs : List X) → list_any p xs ≡ ltb 0 (count_by p xs)
list_any_count p [] = refl
list_any_count p (x ∷ xs) = rw (list_any_count p xs, sum_by-cons (λ y. cond (p y) 1 0) x xs) (either (p x) (count_by p xs))
  where
    either : (b : Bool) (n : ℕ) → (b || ltb 0 n) ≡ ltb 0 (cond b 1 0 + n)
    either true n = grind (arith, nat_tests)
    either false n = grind (arith, nat_tests)

-- how many pairs share an address
pairs : List LoadSegment → ℕ
pairs [] = 0
pairs (s ∷ rest) = count_by (overlaps s) rest + pairs rest

some_overlap-pairs : (xs : List LoadSegment) → some_overlap xs ≡ ltb 0 (pairs xs)
unfolding some_overlap pairs
some_overlap-pairs [] = refl
some_overlap-pairs (s ∷ rest) = rw (list_any_count (overlaps s) rest, some_overlap-pairs rest) (grind (arith, nat_tests))

-- the pairs of one of xs and one of ys
between : List LoadSegment → List LoadSegment → ℕ
between xs ys = sum_by (λ s. count_by (overlaps s) ys) xs

between-cons : (s : LoadSegment) (xs ys : List LoadSegment) → between (s ∷ xs) ys ≡ count_by (overlaps s) ys + between xs ys
unfolding between
between-cons s xs ys = sum_by-cons (λ t. count_by (overlaps t) ys) s xs

count_by-cons : (p : LoadSegment → Bool) (s : LoadSegment) (xs : List LoadSegment) → count_by p (s ∷ xs) ≡ cond (p s) 1 0 + count_by p xs
count_by-cons p s xs = sum_by-cons (λ t. cond (p t) 1 0) s xs

between-cons_right : (t : LoadSegment) (xs ys : List LoadSegment) → between xs (t ∷ ys) ≡ count_by (overlaps t) xs + between xs ys
unfolding between
between-cons_right t [] ys = refl
between-cons_right t (s ∷ xs) ys =
    let ih : between xs (t ∷ ys) ≡ count_by (overlaps t) xs + between xs ys = between-cons_right t xs ys in
    let outer : between (s ∷ xs) (t ∷ ys) ≡ count_by (overlaps s) (t ∷ ys) + between xs (t ∷ ys) = between-cons s xs (t ∷ ys) in
    let inner : between (s ∷ xs) ys ≡ count_by (overlaps s) ys + between xs ys = between-cons s xs ys in
    let one : count_by (overlaps s) (t ∷ ys) ≡ cond (overlaps s t) 1 0 + count_by (overlaps s) ys = count_by-cons (overlaps s) t ys in
    let other : count_by (overlaps t) (s ∷ xs) ≡ cond (overlaps t s) 1 0 + count_by (overlaps t) xs = count_by-cons (overlaps t) s xs in
    let turned : ◌≡◌ {A = ℕ} (cond (overlaps s t) 1 0) (cond (overlaps t s) 1 0) = ap (λ (b : Bool). cond b 1 0) (overlaps-sym s t) in
    omega (arith, ih, outer, inner, one, other, turned)

-- each with itself, and each pair twice
selves : List LoadSegment → ℕ
selves xs = sum_by (λ s. cond (overlaps s s) 1 0) xs

between_itself : (xs : List LoadSegment) → between xs xs ≡ selves xs + 2 * pairs xs
unfolding between selves pairs
between_itself [] = refl
between_itself (s ∷ xs) =
    let ih : between xs xs ≡ selves xs + 2 * pairs xs = between_itself xs in
    let outer : between (s ∷ xs) (s ∷ xs) ≡ count_by (overlaps s) (s ∷ xs) + between xs (s ∷ xs) = between-cons s xs (s ∷ xs) in
    let inner : between xs (s ∷ xs) ≡ count_by (overlaps s) xs + between xs xs = between-cons_right s xs xs in
    let one : count_by (overlaps s) (s ∷ xs) ≡ cond (overlaps s s) 1 0 + count_by (overlaps s) xs = count_by-cons (overlaps s) s xs in
    let own : selves (s ∷ xs) ≡ cond (overlaps s s) 1 0 + selves xs = sum_by-cons (λ t. cond (overlaps t t) 1 0) s xs in
    omega (arith, ih, outer, inner, one, own)

between-IsPermutation : (xs ys : List LoadSegment) → IsPermutation xs ys → between ys ys ≡ between xs xs
unfolding between
between-IsPermutation xs ys p =
    let inner : (λ (s : LoadSegment). count_by (overlaps s) ys) ≡ (λ (s : LoadSegment). count_by (overlaps s) xs) =
    fun_ext (λ (s : LoadSegment). sum_by-IsPermutation (λ t. cond (overlaps s t) 1 0) xs ys p) in
    ap (λ f. sum_by f ys) inner ∙ sum_by-IsPermutation (λ s. count_by (overlaps s) xs) xs ys p

-- whether two share an address doesn't depend on the order
pub some_overlap-IsPermutation : (xs ys : List LoadSegment) → IsPermutation xs ys → some_overlap xs ≡ some_overlap ys
unfolding selves
some_overlap-IsPermutation xs ys p =
    let all : between ys ys ≡ between xs xs = between-IsPermutation xs ys p in
    let own : selves ys ≡ selves xs = sum_by-IsPermutation (λ s. cond (overlaps s s) 1 0) xs ys p in
    let here : between xs xs ≡ selves xs + 2 * pairs xs = between_itself xs in
    let there : between ys ys ≡ selves ys + 2 * pairs ys = between_itself ys in
    let same : pairs xs ≡ pairs ys = omega (arith, all, own, here, there) in
    some_overlap-pairs xs ∙ ap (ltb 0) same ∙ sym (some_overlap-pairs ys)
