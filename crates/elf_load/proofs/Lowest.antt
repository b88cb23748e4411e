-- The lowest address of segments, where RAM begins.
use Rattle.std.proofs.Common.{◌≡◌, ℕ, zero, suc, ◌^◌, ◌<◌, ◌≤◌, List, [], ◌∷◌, length, get_or, arith}
use Rattle.std.specs.List.{All, AllPairs}
use Rattle.std.specs.List.Sorted.{IsPermutation}
use Rattle.std.proofs.lemmas.List.Sorted.{All-permutation, IsPermutation-sym}
use Rattle.elf_load.specs.Headers.{LoadSegment}
use Rattle.elf_load.specs.Meaning.{lowest, base_of}

pub lowest-le : (xs : List LoadSegment) → All (λ s. lowest xs ≤ s.vaddr) xs
unfolding lowest
lowest-le [] k d h = absurd (omega arith)
lowest-le (s ∷ rest) zero d h = omega arith
lowest-le (s ∷ rest) (suc k) d h = omega (arith, lowest-le rest k d (omega arith))

lowest-most : (xs : List LoadSegment) → lowest xs ≤ 2 ^ 32
unfolding lowest
lowest-most [] = omega arith
lowest-most (s ∷ rest) = omega (arith, lowest-most rest)

lowest-greatest : (n : ℕ) (xs : List LoadSegment) → n ≤ 2 ^ 32 → All (λ s. n ≤ s.vaddr) xs → n ≤ lowest xs
unfolding lowest
lowest-greatest n [] m h = m
lowest-greatest n (s ∷ rest) m h =
    let first : n ≤ s.vaddr = h 0 s (omega arith) in
    omega (arith, first, lowest-greatest n rest m (λ k d p. h (suc k) d (omega arith)))

lowest-IsPermutation_le : (xs ys : List LoadSegment) → IsPermutation xs ys → lowest xs ≤ lowest ys
lowest-IsPermutation_le xs ys p =
    lowest-greatest (lowest xs) ys (lowest-most xs) (All-permutation (λ s. lowest xs ≤ s.vaddr) xs ys p (lowest-le xs))

pub lowest-IsPermutation : (xs ys : List LoadSegment) → IsPermutation xs ys → lowest xs ≡ lowest ys
lowest-IsPermutation xs ys p =
    omega (arith, lowest-IsPermutation_le xs ys p, lowest-IsPermutation_le ys xs (IsPermutation-sym xs ys p))

-- in order of address it is that of the first
pub lowest-first : (xs : List LoadSegment) (d : LoadSegment) → 0 < length xs → (get_or xs 0 d).vaddr < 2 ^ 32 → AllPairs (λ s t. s.vaddr ≤ t.vaddr) xs
    → lowest xs ≡ (get_or xs 0 d).vaddr
lowest-first [] d l small h = absurd (omega arith)
lowest-first (s ∷ rest) d l small h =
    let below : lowest (s ∷ rest) ≤ s.vaddr = lowest-le (s ∷ rest) 0 d l in
    let each : All (λ t. s.vaddr ≤ t.vaddr) (s ∷ rest) = λ k e p. first_le s rest h k e p in
    omega (arith, below, lowest-greatest s.vaddr (s ∷ rest) (omega arith) each)
  where
    first_le : (s : LoadSegment) (rest : List LoadSegment) → AllPairs (λ s t. s.vaddr ≤ t.vaddr) (s ∷ rest) → (k : ℕ) (e : LoadSegment)
        → k < length (s ∷ rest) → s.vaddr ≤ (get_or (s ∷ rest) k e).vaddr
    first_le s rest h zero e p = omega arith
    first_le s rest h (suc k) e p = h 0 (suc k) e (omega arith) p

pub base_of-le : (xs : List LoadSegment) → All (λ s. base_of xs ≤ s.vaddr) xs
unfolding base_of
base_of-le xs k d h = omega (arith, lowest-le xs k d h)
