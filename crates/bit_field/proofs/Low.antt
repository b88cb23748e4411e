-- The bits of a remainder, a quotient and a product by a power of two; numbers with the same lowest bits.
use Rattle.std.proofs.Common.{◌≡◌, ℕ, ◌+◌, ◌-◌, ◌*◌, ◌/◌, ◌%◌, ◌^◌, ◌<◌, ◌≤◌, sym, ◌∙◌, ap, arith}
use Rattle.std.specs.Int.{bit_at}
use Rattle.std.proofs.Math.Nat.{add-mod}
use Rattle.std.proofs.lemmas.Nat.{shr-shr, shr_split, pow_pos, mod_below, mul-mod}
use Rattle.std.proofs.lemmas.Nat.Bits.{bit_at-zero, same_from_bits_below, bit_at_cat_low, bit_at_cat_high}

pub bit_at-mod : (n k i : ℕ) → i < k → bit_at (n % 2 ^ k) i ≡ bit_at n i
bit_at-mod n k i h = sym (bit_at_cat_low (n / 2 ^ k) k (n % 2 ^ k) i h) ∙ ap (λ m. bit_at m i) (shr_split n k)

pub bit_at-shr : (n k i : ℕ) → bit_at (n / 2 ^ k) i ≡ bit_at n (k + i)
bit_at-shr n k i = ap (λ m. m % 2) (shr-shr n k i)

pub bit_at-shl_low : (n k i : ℕ) → i < k → bit_at (n * 2 ^ k) i ≡ 0
bit_at-shl_low n k i h = ap (λ m. bit_at m i) (omega arith) ∙ bit_at_cat_low n k 0 i h ∙ bit_at-zero i

pub bit_at-shl_high : (n k i : ℕ) → k ≤ i → bit_at (n * 2 ^ k) i ≡ bit_at n (i - k)
bit_at-shl_high n k i h = ap (λ m. bit_at m i) (omega arith) ∙ bit_at_cat_high n k 0 i (pow_pos k) h

-- the same lowest n bits, the same remainder
pub same_rest : (n a b : ℕ) → ((k : ℕ) → k < n → bit_at a k ≡ bit_at b k) → a % 2 ^ n ≡ b % 2 ^ n
same_rest n a b same =
    same_from_bits_below n _ _ (mod_below a (2 ^ n) (pow_pos n)) (mod_below b (2 ^ n) (pow_pos n))
    (λ i h. bit_at-mod a n i h ∙ same i h ∙ sym (bit_at-mod b n i h))

pub same_bit : (n a b i : ℕ) → i < n → a % 2 ^ n ≡ b % 2 ^ n → bit_at a i ≡ bit_at b i
same_bit n a b i h e = sym (bit_at-mod a n i h) ∙ ap (λ m. bit_at m i) e ∙ bit_at-mod b n i h

-- ---- sums and products of numbers with the same remainders

pub same_sum : (m a b c d : ℕ) → a % m ≡ c % m → b % m ≡ d % m → (a + b) % m ≡ (c + d) % m
same_sum m a b c d e f = add-mod a b m ∙ ap (λ (x : ℕ). (x + b % m) % m) e ∙ ap (λ (x : ℕ). (c % m + x) % m) f ∙ sym (add-mod c d m)

pub same_product : (m a b c d : ℕ) → a % m ≡ c % m → b % m ≡ d % m → (a * b) % m ≡ (c * d) % m
same_product m a b c d e f = mul-mod a b m ∙ ap (λ (x : ℕ). (x * (b % m)) % m) e ∙ ap (λ (x : ℕ). (c % m * x) % m) f ∙ sym (mul-mod c d m)
