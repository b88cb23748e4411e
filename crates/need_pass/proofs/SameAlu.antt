-- Non-interference of the operations at one bit of the result.
use Rattle.std.proofs.Common.{◌≡◌, ◌⊎◌, ℕ, ◌+◌, ◌-◌, ◌*◌, ◌/◌, ◌%◌, ◌^◌, ◌<◌, refl, sym, ◌∙◌, ap, arith, inl, inr}
use Rattle.std.specs.Int.{bit_at}
use Rattle.std.specs.Prelude.{min, max}
use Rattle.std.proofs.lemmas.Bool.{cases_lt, cases_eq}
use Rattle.std.proofs.lemmas.Nat.Bits.{bit_at-lt, bit_at_and, bit_at_or, bit_at_above, same_from_bits_below}
use Rattle.bit_field.proofs.Low.{same_rest}
use Rattle.rv_table.specs.Arithmetic.{alu, shift_signed}
use Rattle.rv_table.specs.declared.operation.AluKind.{AluKind}
use Rattle.rv_table.specs.declared.operation.AluKind.TheVariants.{Add, Sub, Sll, Xor, Srl, Sra, Or, And, Mul}
use Rattle.need_pass.specs.Links.{FromA, FromB, FromImmediate}
use Rattle.need_pass.proofs.SameResult.{same_add, same_sub, same_mul, same_xor, same_and, same_or, same_shl, same_shr}
use Rattle.need_pass.proofs.SignedShift.{shift_signed-low, shift_signed-high}

-- the amount, from its five bits
same_amount : (b d : ℕ) → ((k : ℕ) → k < 32 → k < 5 → bit_at b k ≡ bit_at d k) → b % 32 ≡ d % 32
same_amount b d same = same_rest 5 b d (λ k l. same k (omega arith) l)

amount_below : (b : ℕ) → b % 32 < 32
amount_below b = omega arith

same_shift_signed : (a c n j : ℕ) → a < 2 ^ 32 → c < 2 ^ 32 → n < 32 → j < 32 → ((k : ℕ) → k < 32 → (k ≡ j + n) ⊎ ((k ≡ 31) × (31 < j + n)) → bit_at a k ≡ bit_at c k) → bit_at (shift_signed a n) j ≡ bit_at (shift_signed c n) j
same_shift_signed a c n j h g l m same =
    elim (cases_lt (n + j) 32) [
      | inl b ↦ shift_signed-low a n j h l b ∙ same (n + j) b (inl (omega arith)) ∙ sym (shift_signed-low c n j g l b)
      | inr b ↦ shift_signed-high a n j h l m b ∙ same 31 (omega arith) (inr (refl, omega arith)) ∙ sym (shift_signed-high c n j g l m b)
    ]

-- where every bit has a link to every bit
whole : (kind : AluKind) (a b c d j : ℕ) → a < 2 ^ 32 → b < 2 ^ 32 → c < 2 ^ 32 → d < 2 ^ 32 → ((k : ℕ) → k < 32 → bit_at a k ≡ bit_at c k) → ((k : ℕ) → k < 32 → bit_at b k ≡ bit_at d k) → bit_at (alu kind a b) j ≡ bit_at (alu kind c d) j
whole kind a b c d j ha hb hc hd sa sb =
    ap (λ x. bit_at (alu kind x b) j) (same_from_bits_below 32 a c ha hc sa) ∙ ap (λ x. bit_at (alu kind c x) j) (same_from_bits_below 32 b d hb hd sb)

pub same_alu : (kind : AluKind) (a b c d j : ℕ) → a < 2 ^ 32 → b < 2 ^ 32 → c < 2 ^ 32 → d < 2 ^ 32 → j < 32 → ((k : ℕ) → k < 32 → FromA kind a b k j → bit_at a k ≡ bit_at c k) → ((k : ℕ) → k < 32 → FromB kind a b k j → bit_at b k ≡ bit_at d k) → bit_at (alu kind a b) j ≡ bit_at (alu kind c d) j
unfolding alu
same_alu Add a b c d j ha hb hc hd l sa sb = same_add a b c d j l (λ k m. sa k (omega arith) m) (λ k m. sb k (omega arith) m)
same_alu Sub a b c d j ha hb hc hd l sa sb = same_sub a b c d j l hb hd (λ k m. sa k (omega arith) m) (λ k m. sb k (omega arith) m)
same_alu Mul a b c d j ha hb hc hd l sa sb = same_mul a b c d j l (λ k m. sa k (omega arith) m) (λ k m. sb k (omega arith) m)
same_alu Xor a b c d j ha hb hc hd l sa sb = same_xor a b c d j (sa j l refl) (sb j l refl)
same_alu And a b c d j ha hb hc hd l sa sb = same_and a b c d j (λ s. sa j l (refl, s)) (λ s. sb j l (refl, s))
same_alu Or a b c d j ha hb hc hd l sa sb = same_or a b c d j (λ s. sa j l (refl, s)) (λ s. sb j l (refl, s))
same_alu Sll a b c d j ha hb hc hd l sa sb =
    let n : b % 32 ≡ d % 32 = same_amount b d sb in
    same_shl a c (b % 32) j l (λ m. sa (j - b % 32) (omega arith) (omega arith)) ∙ ap (λ x. bit_at (c * 2 ^ x % 2 ^ 32) j) n
same_alu Srl a b c d j ha hb hc hd l sa sb =
    let n : b % 32 ≡ d % 32 = same_amount b d sb in
    same_shr a c (b % 32) j (elim (cases_lt (b % 32 + j) 32) [
      | inl m ↦ sa (b % 32 + j) m (omega arith)
      | inr m ↦ bit_at_above a 32 (b % 32 + j) ha m ∙ sym (bit_at_above c 32 (b % 32 + j) hc m)
    ])
    ∙ ap (λ x. bit_at (c / 2 ^ x) j) n
same_alu Sra a b c d j ha hb hc hd l sa sb =
    let n : b % 32 ≡ d % 32 = same_amount b d sb in
    same_shift_signed a c (b % 32) j ha hc (amount_below b) l sa ∙ ap (λ x. bit_at (shift_signed c x) j) n
same_alu kind a b c d j ha hb hc hd l sa sb = whole kind a b c d j ha hb hc hd (λ k m. sa k m tt) (λ k m. sb k m tt)

pub same_immediate : (kind : AluKind) (a c n j : ℕ) → a < 2 ^ 32 → c < 2 ^ 32 → n < 2 ^ 32 → j < 32 → ((k : ℕ) → k < 32 → FromImmediate kind a n k j → bit_at a k ≡ bit_at c k) → bit_at (alu kind a n) j ≡ bit_at (alu kind c n) j
unfolding alu
same_immediate And a c n j ha hc hn l sa =
    elim (cases_eq (bit_at n j) 1) [
      | inl one ↦ bit_at_and a n j ∙ ap (λ x. min x (bit_at n j)) (sa j l (refl, one)) ∙ sym (bit_at_and c n j)
      | inr z ↦ omega (arith, bit_at_and a n j, bit_at_and c n j, bit_at-lt n j)
    ]
same_immediate Or a c n j ha hc hn l sa =
    elim (cases_eq (bit_at n j) 0) [
      | inl nil ↦ bit_at_or a n j ∙ ap (λ x. max x (bit_at n j)) (sa j l (refl, nil)) ∙ sym (bit_at_or c n j)
      | inr z ↦ omega (arith, bit_at_or a n j, bit_at_or c n j, bit_at-lt n j, bit_at-lt a j, bit_at-lt c j)
    ]
same_immediate kind a c n j ha hc hn l sa = same_alu kind a n c n j ha hn hc hn l sa (λ k m s. refl)
