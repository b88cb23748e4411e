-- Bits that pass a test of their place, tried one by one.
use Rattle.std.proofs.Common.{◌≡◌, ◌≢◌, ℕ, ◌+◌, ◌-◌, ◌^◌, ◌==◌, ◌&&◌, ◌||◌, Bool, true, false, sym, ◌∙◌, arith, inl, inr}
use Rattle.std.specs.Prelude.{bit_or, nat_le, nat_lt, if◌then◌else◌}
use Rattle.std.proofs.lemmas.Bool.{cases_eq}
use Rattle.std.proofs.lemmas.Bool.Decides.{nat_tests}
use Rattle.std.proofs.lemmas.Nat.Bits.{bit_at_or, bit_at-lt, bit_at-zero, bit_at-pow_same, bit_at-pow_other}
use Rattle.ace_rules.specs.RuleMasks.{is_place_of, is_set}
use Rattle.ace_rules.proofs.MarkedBits.{when-set}

pub set-or : (a b k : ℕ) → is_set (bit_or a b) k ≡ (is_set a k || is_set b k)
set-or a b k =
    let h = bit_at_or a b k in
    let l = bit_at-lt a k in
    let m = bit_at-lt b k in
    grind (arith, nat_tests)

pub set-zero : (k : ℕ) → is_set 0 k ≡ false
set-zero k = let z = bit_at-zero k in grind (arith, nat_tests)

pub set-pow : (i k : ℕ) → is_set (2 ^ i) k ≡ (k == i)
set-pow i k = elim (cases_eq k i) [
  | inl e ↦ let s = bit_at-pow_same i in rw e (grind (arith, nat_tests))
  | inr d ↦ let o = bit_at-pow_other i k d in grind (arith, nat_tests)
]

-- no place has been tried
none : (test : ℕ → Bool) (first k : ℕ) → is_place_of test first 0 k ≡ false
none test first k = grind (arith, nat_tests)

pub tried-none : (test : ℕ → Bool) (first k : ℕ) → is_set 0 k ≡ is_place_of test first 0 k
tried-none test first k = set-zero k ∙ sym (none test first k)

on : (x : ℕ → Bool) (first n k : ℕ) → (nat_le first k && (nat_lt k (first + n) && x (k - first))) || (x n && k == first + n)
    ≡ nat_le first k && (nat_lt k (first + (n + 1)) && x (k - first))
on x first n k = elim (cases_eq k (first + n)) [
  | inl e ↦
      let p : k - first ≡ n = omega (arith, e) in
      rw p (last (x n) first n k e)
  | inr d ↦ other (x n) (x (k - first)) first n k d
]
  where
    last : (b : Bool) (first n k : ℕ) → k ≡ first + n → (nat_le first k && (nat_lt k (first + n) && b)) || (b && k == first + n)
        ≡ nat_le first k && (nat_lt k (first + (n + 1)) && b)
    last true first n k e = grind (arith, nat_tests)
    last false first n k e = grind (arith, nat_tests)

    other : (a b : Bool) (first n k : ℕ) → k ≢ first + n → (nat_le first k && (nat_lt k (first + n) && b)) || (a && k == first + n)
        ≡ nat_le first k && (nat_lt k (first + (n + 1)) && b)
    other a true first n k d = grind (arith, nat_tests)
    other a false first n k d = grind (arith, nat_tests)

-- one place more
pub tried-on : (test : ℕ → Bool) (first n mask bit more : ℕ) → bit ≡ 2 ^ (first + n) → more ≡ (if test n then bit else 0)
    → ((k : ℕ) → is_set mask k ≡ is_place_of test first n k) → (k : ℕ) → is_set (bit_or mask more) k ≡ is_place_of test first (n + 1) k
tried-on test first n mask bit more is is_more so_far k =
    rw (set-or mask more k, so_far k, is_more, is, when-set (test n) (2 ^ (first + n)) k, set-pow (first + n) k) (on test first n k)
