-- Non-interference of the arithmetic: where the operands agree in each bit with a link to bit j of the result, so do the results.
use Rattle.std.proofs.Common.{◌≡◌, ◌⊎◌, ℕ, ◌+◌, ◌-◌, ◌*◌, ◌/◌, ◌%◌, ◌^◌, ◌<◌, ◌≤◌, refl, sym, ◌∙◌, ap, arith, inl, inr}
use Rattle.std.specs.Int.{bit_at, bit_not, w32}
use Rattle.std.specs.Prelude.{bit_and, bit_or, bit_xor}
use Rattle.std.proofs.lemmas.Bool.{cases_lt, cases_eq}
use Rattle.std.proofs.lemmas.Nat.Bits.{bit_at-lt, bit_at_and, bit_at_or, bit_at_xor, bit_at_not}
use Rattle.bit_field.proofs.Low.{bit_at-mod, bit_at-shr, bit_at-shl_low, bit_at-shl_high, same_bit, same_product, same_rest, same_sum}

-- the lowest j + 1 bits
rest_of : (j a b : ℕ) → ((k : ℕ) → k ≤ j → bit_at a k ≡ bit_at b k) → a % 2 ^ (j + 1) ≡ b % 2 ^ (j + 1)
rest_of j a b same = same_rest (j + 1) a b (λ k l. same k (omega arith))

bit_of_rest : (j x y : ℕ) → j < 32 → x % 2 ^ (j + 1) ≡ y % 2 ^ (j + 1) → bit_at (x % 2 ^ 32) j ≡ bit_at (y % 2 ^ 32) j
bit_of_rest j x y l e = bit_at-mod x 32 j l ∙ same_bit (j + 1) x y j (omega arith) e ∙ sym (bit_at-mod y 32 j l)

pub same_add : (a b c d j : ℕ) → j < 32 → ((k : ℕ) → k ≤ j → bit_at a k ≡ bit_at c k) → ((k : ℕ) → k ≤ j → bit_at b k ≡ bit_at d k) → bit_at ((a + b) % 2 ^ 32) j ≡ bit_at ((c + d) % 2 ^ 32) j
same_add a b c d j l sa sb = bit_of_rest j (a + b) (c + d) l (same_sum (2 ^ (j + 1)) a b c d (rest_of j a c sa) (rest_of j b d sb))

pub same_mul : (a b c d j : ℕ) → j < 32 → ((k : ℕ) → k ≤ j → bit_at a k ≡ bit_at c k) → ((k : ℕ) → k ≤ j → bit_at b k ≡ bit_at d k) → bit_at (a * b % 2 ^ 32) j ≡ bit_at (c * d % 2 ^ 32) j
same_mul a b c d j l sa sb = bit_of_rest j (a * b) (c * d) l (same_product (2 ^ (j + 1)) a b c d (rest_of j a c sa) (rest_of j b d sb))

-- a difference is a sum with the complement
negated : (b : ℕ) → b < 2 ^ 32 → 2 ^ 32 - b ≡ bit_not w32 b + 1
negated b h = omega arith

pub same_sub : (a b c d j : ℕ) → j < 32 → b < 2 ^ 32 → d < 2 ^ 32 → ((k : ℕ) → k ≤ j → bit_at a k ≡ bit_at c k) → ((k : ℕ) → k ≤ j → bit_at b k ≡ bit_at d k) → bit_at ((a + (2 ^ 32 - b)) % 2 ^ 32) j ≡ bit_at ((c + (2 ^ 32 - d)) % 2 ^ 32) j
same_sub a b c d j l hb hd sa sb =
    let flipped : (k : ℕ) → k ≤ j → bit_at (bit_not w32 b) k ≡ bit_at (bit_not w32 d) k = λ k m. bit_at_not w32 b k hb (omega arith) ∙ ap (λ x. 1 - x) (sb k m) ∙ sym (bit_at_not w32 d k hd (omega arith)) in
    let e : (bit_not w32 b + 1) % 2 ^ (j + 1) ≡ (bit_not w32 d + 1) % 2 ^ (j + 1) = same_sum (2 ^ (j + 1)) (bit_not w32 b) 1 (bit_not w32 d) 1 (rest_of j (bit_not w32 b) (bit_not w32 d) flipped) refl in
    rw (negated b hb, negated d hd) (bit_of_rest j (a + (bit_not w32 b + 1)) (c + (bit_not w32 d + 1)) l (same_sum (2 ^ (j + 1)) a (bit_not w32 b + 1) c (bit_not w32 d + 1) (rest_of j a c sa) e))

pub same_xor : (a b c d j : ℕ) → bit_at a j ≡ bit_at c j → bit_at b j ≡ bit_at d j → bit_at (bit_xor a b) j ≡ bit_at (bit_xor c d) j
same_xor a b c d j e f = bit_at_xor a b j ∙ ap (λ x. (x + bit_at b j) % 2) e ∙ ap (λ x. (bit_at c j + x) % 2) f ∙ sym (bit_at_xor c d j)

pub same_and : (a b c d j : ℕ) → ((bit_at a j ≡ 0) ⊎ (bit_at b j ≡ 1) → bit_at a j ≡ bit_at c j) → (bit_at a j ≡ 1 → bit_at b j ≡ bit_at d j) → bit_at (bit_and a b) j ≡ bit_at (bit_and c d) j
same_and a b c d j sa sb =
    elim (cases_eq (bit_at a j) 1) [
      | inl one ↦
          let f : bit_at b j ≡ bit_at d j = sb one in
          elim (cases_eq (bit_at b j) 1) [
            | inl o ↦ let e : bit_at a j ≡ bit_at c j = sa (inr o) in omega (arith, bit_at_and a b j, bit_at_and c d j)
            | inr z ↦ omega (arith, bit_at_and a b j, bit_at_and c d j, bit_at-lt b j)
          ]
      | inr z ↦
          let zero : bit_at a j ≡ 0 = omega (arith, bit_at-lt a j) in
          let e : bit_at a j ≡ bit_at c j = sa (inl zero) in
          omega (arith, bit_at_and a b j, bit_at_and c d j)
    ]

pub same_or : (a b c d j : ℕ) → ((bit_at a j ≡ 1) ⊎ (bit_at b j ≡ 0) → bit_at a j ≡ bit_at c j) → (bit_at a j ≡ 0 → bit_at b j ≡ bit_at d j) → bit_at (bit_or a b) j ≡ bit_at (bit_or c d) j
same_or a b c d j sa sb =
    elim (cases_eq (bit_at a j) 0) [
      | inl nil ↦
          let f : bit_at b j ≡ bit_at d j = sb nil in
          elim (cases_eq (bit_at b j) 0) [
            | inl o ↦ let e : bit_at a j ≡ bit_at c j = sa (inr o) in omega (arith, bit_at_or a b j, bit_at_or c d j)
            | inr z ↦ omega (arith, bit_at_or a b j, bit_at_or c d j, bit_at-lt b j, bit_at-lt c j)
          ]
      | inr z ↦
          let one : bit_at a j ≡ 1 = omega (arith, bit_at-lt a j) in
          let e : bit_at a j ≡ bit_at c j = sa (inl one) in
          omega (arith, bit_at_or a b j, bit_at_or c d j, bit_at-lt b j, bit_at-lt d j)
    ]

pub same_shl : (a c n j : ℕ) → j < 32 → (n ≤ j → bit_at a (j - n) ≡ bit_at c (j - n)) → bit_at (a * 2 ^ n % 2 ^ 32) j ≡ bit_at (c * 2 ^ n % 2 ^ 32) j
same_shl a c n j l same =
    bit_at-mod (a * 2 ^ n) 32 j l
    ∙ elim (cases_lt j n) [
      | inl m ↦ bit_at-shl_low a n j m ∙ sym (bit_at-shl_low c n j m)
      | inr m ↦ bit_at-shl_high a n j m ∙ same m ∙ sym (bit_at-shl_high c n j m)
    ]
    ∙ sym (bit_at-mod (c * 2 ^ n) 32 j l)

pub same_shr : (a c n j : ℕ) → bit_at a (n + j) ≡ bit_at c (n + j) → bit_at (a / 2 ^ n) j ≡ bit_at (c / 2 ^ n) j
same_shr a c n j e = bit_at-shr a n j ∙ e ∙ sym (bit_at-shr c n j)
