-- What a flip of one bit is, for any type whose bits can be struck.
use Rattle.std.specs.Prelude.{◌≡◌, ◌≢◌, ℕ, ◌-◌, ◌<◌}

pub record FlipLaws {S : Type 0} (IsFit : S → Type 0) (bit_count : S → ℕ) (bit_of : S → ℕ → ℕ) (flipped : S → ℕ → S) : Type 0 where
  -- a flip keeps every field below its width, and the number of bits
  pub fit_stays : (x : S) (k : ℕ) → IsFit x → k < bit_count x → IsFit (flipped x k)
  pub count_stays : (x : S) (k : ℕ) → IsFit x → k < bit_count x → bit_count (flipped x k) ≡ bit_count x
  -- it changes bit k
  pub is_bit : (x : S) (k : ℕ) → bit_of x k < 2
  pub flips_it : (x : S) (k : ℕ) → IsFit x → k < bit_count x → bit_of (flipped x k) k ≡ 1 - bit_of x k
  -- and no other
  pub flips_no_other : (x : S) (k j : ℕ) → IsFit x → k < bit_count x → j < bit_count x → j ≢ k → bit_of (flipped x k) j ≡ bit_of x j
  -- two flips restore the value
  pub restores : (x : S) (k : ℕ) → IsFit x → k < bit_count x → flipped (flipped x k) k ≡ x
  -- two values with all bits equal are equal
  pub same : (x y : S) → IsFit x → IsFit y → bit_count x ≡ bit_count y → ((k : ℕ) → k < bit_count x → bit_of x k ≡ bit_of y k) → x ≡ y
