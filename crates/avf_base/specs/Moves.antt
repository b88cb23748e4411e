-- What a read gives of a name, and what a write adds to what a sink took, where those are told.
use Rattle.std.specs.Prelude.{◌≡◌, ℕ, ◌+◌, ◌<◌, ◌≤◌, List, ◌++◌, length, take, drop, Option, None, Some, Result, IfOk, ⊤}

-- The first n bytes of buf are the contents' bytes from offset `at` on, and n is 0 only at or past their end, or for no room.
pub record IsPiece (contents : List ℕ) (at n : ℕ) (buf : List ℕ) : Type 0 where
  pub bytes : drop at contents ≡ take n buf ++ drop (at + n) contents
  pub ended : n ≡ 0 → 0 < length buf → length contents ≤ at

-- what a read from offset `at` on answers, where the contents are told
abbrev pub Reads : {E : Type 0} → Option (List ℕ) → ℕ → Result ℕ E → List ℕ → Type 0
Reads None at result buf = ⊤
Reads (Some contents) at result buf = IfOk result (λ n. IsPiece contents at n buf)

-- What was taken grew by these bytes, where it is told after the call. A sink that tells it then told it before.
abbrev pub Grows : Option (List ℕ) → Option (List ℕ) → List ℕ → Type 0
Grows old None bytes = ⊤
Grows None (Some new) bytes = ⊥
Grows (Some old) (Some new) bytes = new ≡ old ++ bytes

-- what was taken grew by a front of these bytes
abbrev pub GrowsByFront : Option (List ℕ) → Option (List ℕ) → List ℕ → Type 0
GrowsByFront old new bytes = (n : ℕ) × (n ≤ length bytes) × Grows old new (take n bytes)
