-- A number of many decimal digits, bounded at each digit.
use Rattle.std.proofs.Common.{◌≡◌, ℕ, zero, suc, ◌+◌, ◌*◌, ◌-◌, ◌<◌, ◌≤◌, List, [], ◌∷◌, length, get_or, drop, refl, arith, inl, inr}
use Rattle.std.proofs.lemmas.Bool.{cases_lt}
use Rattle.std.proofs.Math.ListN.{drop_of_length-le}
use Rattle.class_map.specs.Bounds.{bounded}
use Rattle.class_map.specs.Spellings.{worth}
use Rattle.class_map.specs.declared.spelling.TheConstants.{NUMBER_BOUND}

-- digits make a number no smaller
worth-le : (n : ℕ) (ds : List ℕ) → n ≤ worth n ds
unfolding worth
worth-le n [] = omega arith
worth-le n (d ∷ ds) = let rest = worth-le (n * 10 + (d - 48)) ds in omega (arith, rest)

-- a number that was bounded before comes to the same bounded number
bounded_behind : (n : ℕ) (ds : List ℕ) → bounded (worth (bounded n) ds) ≡ bounded (worth n ds)
bounded_behind n ds = elim (cases_lt n NUMBER_BOUND) [
  | inl less ↦ let same : bounded n ≡ n = omega arith in rw same refl
  | inr more ↦
      let top : bounded n ≡ NUMBER_BOUND = omega arith in
      let all = worth-le n ds in
      let some = worth-le NUMBER_BOUND ds in
      rw top (omega (arith, all, some, more))
]

-- one more digit
pub digit_more : (n : ℕ) (ds : List ℕ) (i : ℕ) → i < length ds
    → bounded (worth (bounded (n * 10 + (get_or ds i 0 - 48))) (drop (i + 1) ds)) ≡ bounded (worth n (drop i ds))
unfolding worth
digit_more n [] i l = absurd (omega arith)
digit_more n (d ∷ ds) zero l = bounded_behind (n * 10 + (d - 48)) ds
digit_more n (d ∷ ds) (suc i) l = let next : suc i + 1 ≡ suc (i + 1) = omega arith in rw next (digit_more n ds i (omega arith))

pub digits_read : (n : ℕ) (ds : List ℕ) (i : ℕ) → length ds ≤ i → n ≤ NUMBER_BOUND → bounded (worth n (drop i ds)) ≡ n
unfolding worth
digits_read n ds i l h = rw (drop_of_length-le ds l) (omega arith)
