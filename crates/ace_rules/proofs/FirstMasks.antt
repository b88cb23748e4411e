-- The bits that each rule takes, by masks.
use Rattle.std.proofs.Common.{◌≡◌, ℕ, zero, suc, ◌+◌, ◌-◌, ◌*◌, ◌^◌, ◌<◌, ◌==◌, ◌&&◌, true, false, Bool, List, [], ◌∷◌, cond, refl, sym, ap, ◌∙◌, arith}
use Rattle.std.proofs.Common.{length, set, ◌≤◌}
use Rattle.std.specs.Prelude.{slice_index, bit_and, bit_xor, if◌then◌else◌}
use Rattle.std.specs.Int.Count.{ones}
use Rattle.std.proofs.lemmas.Bool.Decides.{nat_tests}
use Rattle.std.proofs.lemmas.Nat.Bits.{bit_at-lt, bit_at_and, bit_at_ones, bit_at_xor}
use Rattle.bit_field.specs.Layouts.{number_of}
use Rattle.ace_class.specs.Classes.{class_number, number_of as rule_number}
use Rattle.std.proofs.lemmas.Nat.{and_le_l, xor_lt}
use Rattle.ace_class.specs.declared.class.Class.{Class}
use Rattle.ace_class.specs.declared.class.Class.TheVariants.{UnAce}
use Rattle.ace_class.specs.declared.class.Rule.{Rule}
use Rattle.ace_rules.specs.RuleMasks.{first_of, is_set}
use Rattle.ace_rules.specs.Sums.{count_below, sum_below}
use Rattle.ace_rules.specs.Tallies.{IsAdded}
use Rattle.ace_rules.specs.declared.tally.RuleMask.{RuleMask}
use Rattle.ace_rules.proofs.Popcounts.{ones-count}
use Rattle.ace_rules.proofs.Tallies.{number-most, put-at}
use Rattle.ace_rules.proofs.Sums.{sum_below-add, sum_below-same}

-- how many of the bits that are left have the class of number n
abbrev pub left_count : ℕ → ℕ → List RuleMask → ℕ → ℕ
left_count bits left masks n = count_below bits (λ k. is_set left k && class_number (first_of masks k) == n)

pub sum_below-mul : (n : ℕ) (f : ℕ → ℕ) (c : ℕ) → sum_below n (λ k. f k * c) ≡ sum_below n f * c
unfolding sum_below
sum_below-mul zero f c = omega arith
sum_below-mul (suc n) f c = let h = sum_below-mul n f c in omega (arith, h)

and_lt : (k a b : ℕ) → a < 2 ^ k → bit_and a b < 2 ^ k
and_lt k a b h = let l = and_le_l a b in omega arith

is_and : (a b k : ℕ) → is_set (bit_and a b) k ≡ is_set a k && is_set b k
is_and a b k = let h = bit_at_and a b k in let l = bit_at-lt a k in let m = bit_at-lt b k in grind (arith, nat_tests)

-- what is left without what was found
pub is_rest : (a b k : ℕ) → is_set (bit_xor a (bit_and a b)) k ≡ is_set a k && cond (is_set b k) false true
is_rest a b k =
    let h = bit_at_and a b k in
    let x = bit_at_xor a (bit_and a b) k in
    let l = bit_at-lt a k in
    let m = bit_at-lt b k in
    grind (arith, nat_tests)

at_bit : (a b : Bool) (rule : Rule) (x : Class) (n : ℕ) → number_of (a && class_number (if b then UnAce rule else x) == n)
    ≡ number_of (a && b) * number_of (rule_number rule == n) + number_of ((a && cond b false true) && class_number x == n)
at_bit true true rule x n = omega arith
at_bit true false rule x n = omega arith
at_bit false b rule x n = omega arith

-- the bits that a rule takes, and those that it leaves
pub left-step : (bits left : ℕ) (m : RuleMask) (masks : List RuleMask) (n : ℕ) → left < 2 ^ bits
    → left_count bits left (m ∷ masks) n
    ≡ ones (bit_and left m.mask) * number_of (rule_number m.rule == n) + left_count bits (bit_xor left (bit_and left m.mask)) masks n
left-step bits left m masks n fits =
    let c = number_of (rule_number m.rule == n) in
    let each : (k : ℕ) → k < bits → number_of (is_set left k && class_number (first_of (m ∷ masks) k) == n)
    ≡ number_of (is_set (bit_and left m.mask) k) * c + number_of (is_set (bit_xor left (bit_and left m.mask)) k && class_number (first_of masks k) == n) =
    λ k l.
    rw (is_and left m.mask k, is_rest left m.mask k)
    (at_bit (is_set left k) (is_set m.mask k) m.rule (first_of masks k) n) in
    sum_below-same bits _ _ each
    ∙ sum_below-add bits (λ k. number_of (is_set (bit_and left m.mask) k) * c) (λ k. number_of (is_set (bit_xor left (bit_and left m.mask)) k && class_number (first_of masks k) == n))
    ∙ ap (λ (s : ℕ). s + left_count bits (bit_xor left (bit_and left m.mask)) masks n)
    (sum_below-mul bits (λ k. number_of (is_set (bit_and left m.mask) k)) c
    ∙ ap (λ (s : ℕ). s * c) (sym (ones-count bits (bit_and left m.mask) (and_lt bits left m.mask fits))))

and_true : (a b : Bool) → number_of (a && b) ≡ number_of a * number_of b
and_true true true = refl
and_true true false = refl
and_true false b = omega arith

-- what no rule takes
pub left-end : (bits left n : ℕ) → left < 2 ^ bits → left_count bits left [] n ≡ ones left * number_of (0 == n)
left-end bits left n fits =
    sum_below-same bits _ _ (λ k l. and_true (is_set left k) (0 == n))
    ∙ sum_below-mul bits (λ k. number_of (is_set left k)) (number_of (0 == n))
    ∙ ap (λ (s : ℕ). s * number_of (0 == n)) (sym (ones-count bits left fits))

-- at first all bits are left
pub left-start : (bits : ℕ) (masks : List RuleMask) (n : ℕ)
    → left_count bits (2 ^ bits - 1) masks n ≡ count_below bits (λ k. class_number (first_of masks k) == n)
left-start bits masks n =
    sum_below-same bits _ _ (λ k l.
    let h : is_set (2 ^ bits - 1) k ≡ true = let e = bit_at_ones bits k l in grind (arith, nat_tests) in
    rw h refl)

same_number : (i : ℕ) → number_of (i == i) ≡ 1
same_number i = grind (arith, nat_tests)

-- A row so far: with what is left it has the counts in the end.
module _ (bits left : ℕ) (masks : List RuleMask) (row : List ℕ) (counts : ℕ → ℕ) (fits : left < 2 ^ bits)
    (so_far : (n : ℕ) → slice_index row n + left_count bits left masks n ≡ counts n) where
  pub next-row : (m : RuleMask) (rest : List RuleMask) (i by : ℕ) → masks ≡ m ∷ rest → i ≡ rule_number m.rule → i < length row
      → by ≡ ones (bit_and left m.mask) → (n : ℕ)
      → slice_index (set row i (slice_index row i + by)) n + left_count bits (bit_xor left (bit_and left m.mask)) rest n ≡ counts n
  next-row m rest i by is at within ones_are n =
      let s = left-step bits left m rest n fits in
      let e : left_count bits left masks n ≡ left_count bits left (m ∷ rest) n = ap (λ ms. left_count bits left ms n) is in
      let p = put-at row i n by within in
      let h = so_far n in
      let b : by * number_of (i == n) ≡ ones (bit_and left m.mask) * number_of (rule_number m.rule == n) = rw (at, ones_are) refl in
      omega (arith, s, e, p, h, b)

  pub next-room : (m : RuleMask) (rest : List RuleMask) (i by : ℕ) → masks ≡ m ∷ rest → i ≡ rule_number m.rule
      → by ≡ ones (bit_and left m.mask) → slice_index row i + by ≤ counts i
  next-room m rest i by is at ones_are =
      let s = left-step bits left m rest i fits in
      let e : left_count bits left masks i ≡ left_count bits left (m ∷ rest) i = ap (λ ms. left_count bits left ms i) is in
      let h = so_far i in
      let b : ones (bit_and left m.mask) * number_of (rule_number m.rule == i) ≡ by = rw (← at, same_number i, ← ones_are) (omega arith) in
      omega (arith, s, e, h, b)

  pub end-row : (by : ℕ) → masks ≡ [] → 0 < length row → by ≡ ones left → (n : ℕ) → slice_index (set row 0 (slice_index row 0 + by)) n ≡ counts n
  end-row by is within ones_are n =
      let s = left-end bits left n fits in
      let e : left_count bits left masks n ≡ left_count bits left [] n = ap (λ ms. left_count bits left ms n) is in
      let p = put-at row 0 n by within in
      let h = so_far n in
      let b : by * number_of (0 == n) ≡ ones left * number_of (0 == n) = rw ones_are refl in
      omega (arith, s, e, p, h, b)

  pub end-room : (by : ℕ) → masks ≡ [] → by ≡ ones left → slice_index row 0 + by ≤ counts 0
  end-room by is ones_are =
      let s = left-end bits left 0 fits in
      let e : left_count bits left masks 0 ≡ left_count bits left [] 0 = ap (λ ms. left_count bits left ms 0) is in
      let h = so_far 0 in
      omega (arith, s, e, h, ones_are)

pub rest-fits : (bits left mask : ℕ) → left < 2 ^ bits → bit_xor left (bit_and left mask) < 2 ^ bits
rest-fits bits left mask fits = xor_lt bits left (bit_and left mask) fits (and_lt bits left mask fits)

pub rule-most : (i : ℕ) (rule : Rule) → i ≡ rule_number rule → i < 14
rule-most i rule is = let m = number-most (UnAce rule) in omega (arith, is, m)

-- what is counted, once the masks are known to give the classes
pub added-firsts : (Has : ℕ → Class → Type 0) (masks : List RuleMask) (bits : ℕ) (old row : List ℕ) → length row ≡ length old
    → ((n : ℕ) → slice_index row n ≡ slice_index old n + count_below bits (λ k. class_number (first_of masks k) == n))
    → ((k : ℕ) → k < bits → Has k (first_of masks k)) → IsAdded Has bits old row
added-firsts Has masks bits old row full counts are = record { classes = first_of masks; are = are; full = full; counts = counts }
