-- Lists of bytes: each number that is read of one is below 256.
use Rattle.std.proofs.Common.{◌⊎◌, inl, inr, ℕ, ◌-◌, ◌^◌, ◌<◌, ◌≤◌, List, length, drop, slice_index, slice_range, subst, sym, lit<}
use Rattle.std.specs.List.{All}
use Rattle.std.proofs.Math.ListN.{get_or-eq_default}
use Rattle.std.proofs.lemmas.Bool.{cases_lt}
use Rattle.std.proofs.lemmas.List.Elements.{All-drop, All-get_or, All-take}

pub index-below : (xs : List ℕ) (i : ℕ) → All (λ b. b < 2 ^ 8) xs → slice_index xs i < 256
index-below xs i all = go (cases_lt i (length xs))
  where
    go : (i < length xs) ⊎ (length xs ≤ i) → slice_index xs i < 256
    go (inl l) = All-get_or (λ b. b < 2 ^ 8) xs i 0 l all
    go (inr m) = subst (λ n. n < 256) (sym (get_or-eq_default xs 0 m)) (lit< tt)

pub range-below : (xs : List ℕ) (i j k : ℕ) → All (λ b. b < 2 ^ 8) xs → slice_index (slice_range xs i j) k < 256
range-below xs i j k all =
    index-below (slice_range xs i j) k (All-take (λ b. b < 2 ^ 8) (j - i) (drop i xs) (All-drop (λ b. b < 2 ^ 8) i xs all))
