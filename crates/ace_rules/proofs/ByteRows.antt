-- A row with the bits of a byte, so many times: those that a rule takes, and those that it leaves.
use Rattle.std.proofs.Common.{◌≡◌, ℕ, ◌+◌, ◌*◌, ◌<◌, ◌≤◌, ◌==◌, List, [], ◌∷◌, length, set, refl, sym, ap, ◌∙◌, arith}
use Rattle.std.specs.Prelude.{slice_index, bit_and, bit_xor}
use Rattle.std.specs.Int.Count.{ones}
use Rattle.std.proofs.lemmas.Bool.Decides.{nat_tests}
use Rattle.std.proofs.Math.ListN.{length-set}
use Rattle.std.proofs.Math.Nat.{mul-add, mul_assoc, mul-le-mul_left}
use Rattle.bit_field.specs.Layouts.{number_of}
use Rattle.ace_class.specs.Classes.{class_number, number_of as rule_number}
use Rattle.ace_class.specs.declared.class.Rule.{Rule}
use Rattle.ace_rules.specs.RuleMasks.{first_of, is_set}
use Rattle.ace_rules.specs.Sums.{count_below}
use Rattle.ace_rules.specs.declared.tally_pending.TheConstants.{BYTE_MASK}
use Rattle.ace_rules.proofs.FirstMasks.{left-end, left-start, left-step, rest-fits}
use Rattle.ace_rules.proofs.LatchMarks.{of}
use Rattle.ace_rules.proofs.Popcounts.{ones-count}
use Rattle.ace_rules.proofs.Tallies.{count-le, put-at}

-- how many bits have a class of number n
abbrev counted : Rule → ℕ → ℕ → ℕ
counted rule mask n = count_below 8 (λ k. class_number (first_of (of rule mask ∷ []) k) == n)

abbrev taken : ℕ → ℕ
taken mask = bit_and BYTE_MASK mask

abbrev left : ℕ → ℕ
left mask = bit_xor BYTE_MASK (taken mask)

split : (rule : Rule) (mask n : ℕ)
    → counted rule mask n ≡ ones (taken mask) * number_of (rule_number rule == n) + ones (left mask) * number_of (0 == n)
split rule mask n =
    sym (left-start 8 (of rule mask ∷ []) n) ∙ left-step 8 255 (of rule mask) [] n (omega arith)
    ∙ ap (λ (s : ℕ). ones (taken mask) * number_of (rule_number rule == n) + s)
    (left-end 8 (left mask) n (rest-fits 8 255 mask (omega arith)))

spread : (t a x b y : ℕ) → t * (a * x + b * y) ≡ t * a * x + t * b * y
spread t a x b y =
    let m = mul-add t (a * x) (b * y) in
    let p = mul_assoc t a x in
    let q = mul_assoc t b y in
    omega (arith, m, p, q)

module _ (rule : Rule) (mask times : ℕ) (row : List ℕ) (i by rest : ℕ) (at : i ≡ rule_number rule) (within : i < length row)
    (by_is : by ≡ times * ones (taken mask)) (rest_is : rest ≡ times * ones (left mask)) where
  abbrev between : List ℕ
  between = set row i (slice_index row i + by)

  pub times-row : (n : ℕ) → slice_index (set between 0 (slice_index between 0 + rest)) n ≡ slice_index row n + times * counted rule mask n
  times-row n =
      let p = put-at row i n by within in
      let q = put-at between 0 n rest (let l = length-set row i (slice_index row i + by) in omega (arith, l, within)) in
      let s = ap (λ (c : ℕ). times * c) (split rule mask n) ∙ spread times (ones (taken mask)) (number_of (rule_number rule == n)) (ones (left mask)) (number_of (0 == n)) in
      let b : by * number_of (i == n) ≡ times * ones (taken mask) * number_of (rule_number rule == n) = rw (by_is, at) refl in
      let c : rest * number_of (0 == n) ≡ times * ones (left mask) * number_of (0 == n) = rw rest_is refl in
      omega (arith, p, q, s, b, c)

  most : (n : ℕ) → times * counted rule mask n ≤ times * 8
  most n = mul-le-mul_left times (count-le 8 (λ k. class_number (first_of (of rule mask ∷ []) k) == n))

  same : (k : ℕ) → number_of (k == k) ≡ 1
  same k = grind (arith, nat_tests)

  -- there is room for both
  pub first-room : slice_index row i + by ≤ slice_index row i + times * 8
  first-room =
      let e = times-row i in
      let m = most i in
      let p = put-at row i i by within in
      let q = put-at between 0 i rest (let l = length-set row i (slice_index row i + by) in omega (arith, l, within)) in
      let s : by * number_of (i == i) ≡ by = rw (same i) (omega arith) in
      omega (arith, e, m, p, q, s)

  pub second-room : slice_index between 0 + rest ≤ slice_index row 0 + times * 8
  second-room =
      let e = times-row 0 in
      let m = most 0 in
      let q = put-at between 0 0 rest (let l = length-set row i (slice_index row i + by) in omega (arith, l, within)) in
      let s : rest * number_of (0 == 0) ≡ rest = rw (same 0) (omega arith) in
      omega (arith, e, m, q, s)

-- few bits are left
pub left-few : (mask : ℕ) → ones (left mask) ≤ 8
left-few mask =
    let e = ones-count 8 (left mask) (rest-fits 8 255 mask (omega arith)) in
    let l = count-le 8 (is_set (left mask)) in
    omega (arith, e, l)
