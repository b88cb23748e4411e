-- What a binary search finds in a list that rises by a number of each element.
use Rattle.std.proofs.Common.{◌≡◌, ℕ, zero, suc, ◌<◌, ◌≤◌, true, false, leb, ltb, List, [], ◌∷◌, length, get_or, refl, sym, inl, inr, arith}
use Rattle.std.specs.List.{AllPairs, AllWithin, find, slice_get}
use Rattle.std.specs.List.Sorted.{IsPartitionedBy}
use Rattle.std.specs.Option.{option_copied}
use Rattle.std.specs.Prelude.{Option, Some, None}
use Rattle.std.specs.Slice.{IsItemAt}
use Rattle.std.specs.Borrow.{Bor}
use Rattle.std.proofs.lemmas.Option.{slice_get_past, slice_get_read}
use Rattle.std.proofs.lemmas.Bool.{cases_lt}
use Rattle.std.proofs.lemmas.Bool.Decides.{nat_tests}

-- what the search asks of the list
pub partitioned : {X : Type 0} (n : X → ℕ) (xs : List X) (t : ℕ) → AllPairs (λ a b. n a < n b) xs → IsPartitionedBy (λ x. ltb (n x) t) xs
partitioned n xs t rising a b d l h e =
    elim (cases_lt a b) [
      | inl m ↦ let f : n (get_or xs a d) < n (get_or xs b d) = rising a b d m h in grind (arith, nat_tests)
      | inr m ↦ let same : a ≡ b = omega arith in rw same e
    ]

-- the element at the place between those below t and those from t on is the first from t on
pub found-at : {X : Type 0} (n : X → ℕ) (t : ℕ) (xs : List X) (i : ℕ) → i ≤ length xs → AllWithin (λ x. ltb (n x) t ≡ true) xs 0 i →
    AllWithin (λ x. ltb (n x) t ≡ false) xs i (length xs) → slice_get xs i ≡ find (λ x. leb t (n x)) xs
found-at n t [] i l below above = refl
found-at n t (x ∷ xs) zero l below above =
    let f : ltb (n x) t ≡ false = above 0 x (omega arith) (omega arith) in
    let e : leb t (n x) ≡ true = grind (arith, nat_tests) in
    rw e refl
found-at n t (x ∷ xs) (suc i) l below above =
    let f : ltb (n x) t ≡ true = below 0 x (omega arith) (omega arith) in
    let e : leb t (n x) ≡ false = grind (arith, nat_tests) in
    rw e (found-at n t xs i (omega arith) (λ k d p q. below (suc k) d (omega arith) (omega arith)) (λ k d p q. above (suc k) d (omega arith) (omega arith)))

-- what `get` lends, copied
pub copied-item : {X : Type 0} (xs : List X) (i : ℕ) (r : Option (Bor X)) → IsItemAt xs i r → option_copied r ≡ slice_get xs i
copied-item xs i None h = sym (slice_get_past xs i h.3)
copied-item xs i (Some x) h = sym (slice_get_read xs (length xs) i x.now refl h.3.0 h.1)
