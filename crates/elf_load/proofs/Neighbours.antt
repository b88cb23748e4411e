-- Segments in order of address overlap only where neighbours do.
use Rattle.std.proofs.Common.{◌≡◌, ℕ, zero, suc, ◌+◌, ◌<◌, ◌≤◌, Bool, true, false, List, [], ◌∷◌, length, get_or, refl, subst, arith, inl, inr}
use Rattle.std.specs.List.{list_any, AllPairs, AllAdjacentBelow}
use Rattle.std.proofs.lemmas.Bool.{cases_lt, both_ways, or_left, or_right}
use Rattle.std.proofs.lemmas.Bool.Decides.{nat_tests}
use Rattle.std.proofs.lemmas.List.Folds.{list_any_none}
use Rattle.elf_load.specs.Headers.{LoadSegment}
use Rattle.elf_load.specs.Layout.{AreInOrder, AreApart}
use Rattle.elf_load.specs.Refusal.{overlaps, some_overlap}

no_overlap-apart : (s t : LoadSegment) → s.vaddr + s.memsz ≤ t.vaddr → overlaps s t ≡ false
unfolding overlaps
no_overlap-apart s t h = grind (arith, nat_tests)

overlap-behind : (s t : LoadSegment) → s.vaddr ≤ t.vaddr → t.vaddr < s.vaddr + s.memsz → 0 < t.memsz → overlaps s t ≡ true
unfolding overlaps
overlap-behind s t h g m = grind (arith, nat_tests)

no_overlap : (xs : List LoadSegment) → AllPairs (λ s t. s.vaddr + s.memsz ≤ t.vaddr) xs → some_overlap xs ≡ false
unfolding some_overlap
no_overlap [] h = refl
no_overlap (s ∷ rest) h =
    let first : list_any (overlaps s) rest ≡ false =
    list_any_none (overlaps s) rest (λ k d p. no_overlap-apart s (get_or rest k d) (h 0 (suc k) d (omega arith) (omega arith))) in
    let others : some_overlap rest ≡ false = no_overlap rest (λ i j d p q. h (suc i) (suc j) d (omega arith) (omega arith)) in
    rw (first, others) refl

pub no_overlap-AreApart : (xs : List LoadSegment) → AreApart xs → some_overlap xs ≡ false
no_overlap-AreApart xs h = no_overlap xs h.apart

list_any_at : {X : Type 0} (p : X → Bool) (xs : List X) (k : ℕ) (d : X) → k < length xs → p (get_or xs k d) ≡ true → list_any p xs ≡ true
list_any_at p [] k d h e = absurd (omega arith)
list_any_at p (x ∷ xs) zero d h e = or_left (p x) (list_any p xs) e
list_any_at p (x ∷ xs) (suc k) d h e = or_right (p x) (list_any p xs) (list_any_at p xs k d (omega arith) e)

overlap-at : (xs : List LoadSegment) (i j : ℕ) (d : LoadSegment) → i < j → j < length xs → overlaps (get_or xs i d) (get_or xs j d) ≡ true
    → some_overlap xs ≡ true
unfolding some_overlap
overlap-at [] i j d p q e = absurd (omega arith)
overlap-at (s ∷ rest) i zero d p q e = absurd (omega arith)
overlap-at (s ∷ rest) zero (suc j) d p q e = or_left (list_any (overlaps s) rest) (some_overlap rest) (list_any_at (overlaps s) rest j d (omega arith) e)
overlap-at (s ∷ rest) (suc i) (suc j) d p q e = or_right (list_any (overlaps s) rest) (some_overlap rest) (overlap-at rest i j d (omega arith) (omega arith) e)

-- a segment that begins before the end of the one before it shares an address with it
pub overlap-neighbours : (xs : List LoadSegment) (k : ℕ) (d : LoadSegment) → AreInOrder xs → k + 1 < length xs
    → (get_or xs (k + 1) d).vaddr < (get_or xs k d).vaddr + (get_or xs k d).memsz → some_overlap xs ≡ true
overlap-neighbours xs k d o h e =
    overlap-at xs k (k + 1) d (omega arith) h
    (overlap-behind (get_or xs k d) (get_or xs (k + 1) d) (o.rising k (k + 1) d (omega arith) h) e (o.some (k + 1) d h))

-- where each neighbour ends before the next begins, so does each
pub AreApart-neighbours : (xs : List LoadSegment) → AreInOrder xs → AllAdjacentBelow (λ s t. s.vaddr + s.memsz ≤ t.vaddr) xs (length xs) → AreApart xs
AreApart-neighbours xs o h = record {
  some = o.some;
  apart = λ i j d p q.
      let next : (get_or xs i d).vaddr + (get_or xs i d).memsz ≤ (get_or xs (i + 1) d).vaddr = h i d (omega arith) in
      elim (cases_lt (i + 1) j) [
        | inl more ↦ omega (arith, next, o.rising (i + 1) j d more q)
        | inr same ↦ let P : ℕ → Type 0 = λ m. (get_or xs i d).vaddr + (get_or xs i d).memsz ≤ (get_or xs m d).vaddr in
            let e : i + 1 ≡ j = omega arith in
            subst P e next
      ];
}

-- in order of address with none that overlap, each ends before the next begins
pub AreApart-no_overlap : (xs : List LoadSegment) → AreInOrder xs → some_overlap xs ≡ false → AreApart xs
AreApart-no_overlap xs o e = record {
  some = o.some;
  apart = λ i j d p q. elim (cases_lt (get_or xs j d).vaddr ((get_or xs i d).vaddr + (get_or xs i d).memsz)) [
    | inl less ↦ absurd (both_ways _ e (overlap-at xs i j d p q (overlap-behind (get_or xs i d) (get_or xs j d) (o.rising i j d p q) less (o.some j d q))))
    | inr more ↦ more
  ];
}
