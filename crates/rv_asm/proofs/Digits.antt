-- A number of many digits, bounded at each digit.
use Rattle.std.proofs.Common.{◌≡◌, ℕ, zero, suc, ◌+◌, ◌*◌, ◌<◌, ◌≤◌, List, [], ◌∷◌, length, get_or, drop, refl, arith, inl, inr}
use Rattle.std.specs.Char.{digit_value}
use Rattle.std.proofs.lemmas.Bool.{cases_lt}
use Rattle.std.proofs.Math.ListN.{drop_of_length-le}
use Rattle.std.proofs.Math.Nat.{mul-le-mul_left}
use Rattle.rv_asm.specs.Numbers.{bounded, value_behind}
use Rattle.rv_asm.specs.declared.numbers.TheConstants.{NUMBER_BOUND}

-- digits make a number no smaller
value_behind-le : (base n : ℕ) (ds : List ℕ) → 0 < base → n ≤ value_behind base n ds
unfolding value_behind
value_behind-le base n [] h = omega arith
value_behind-le base n (d ∷ ds) h =
    let more : n * 1 ≤ n * base = mul-le-mul_left n h in
    let rest = value_behind-le base (n * base + digit_value d) ds h in
    omega (arith, more, rest)

-- a number that was bounded before comes to the same bounded number
pub bounded_behind : (base n : ℕ) (ds : List ℕ) → 0 < base → bounded (value_behind base (bounded n) ds) ≡ bounded (value_behind base n ds)
unfolding value_behind
bounded_behind base n ds h = elim (cases_lt n NUMBER_BOUND) [
  | inl less ↦ let same : bounded n ≡ n = omega arith in rw same refl
  | inr more ↦
      let top : bounded n ≡ NUMBER_BOUND = omega arith in
      let all = value_behind-le base n ds h in
      let some = value_behind-le base NUMBER_BOUND ds h in
      rw top (omega (arith, all, some, more))
]

-- one more digit
pub digit_more : (base n : ℕ) (ds : List ℕ) (i : ℕ) → 0 < base → i < length ds
    → bounded (value_behind base (bounded (n * base + digit_value (get_or ds i 0))) (drop (i + 1) ds)) ≡ bounded (value_behind base n (drop i ds))
unfolding value_behind
digit_more base n [] i h l = absurd (omega arith)
digit_more base n (d ∷ ds) zero h l = bounded_behind base (n * base + digit_value d) ds h
digit_more base n (d ∷ ds) (suc i) h l =
    let next : suc i + 1 ≡ suc (i + 1) = omega arith in
    rw next (digit_more base n ds i h (omega arith))

pub digits_read : (base n : ℕ) (ds : List ℕ) (i : ℕ) → length ds ≤ i → n ≤ NUMBER_BOUND → bounded (value_behind base n (drop i ds)) ≡ n
unfolding value_behind
digits_read base n ds i l h = rw (drop_of_length-le ds l) (omega arith)
