-- How many numbers, or pairs of them, pass a test.
use Rattle.std.specs.Prelude.{ℕ, zero, suc, ◌+◌, Bool}
use Rattle.bit_field.specs.Layouts.{number_of}

-- f 0 + .. + f (n - 1)
unfoldable pub sum_below : ℕ → (ℕ → ℕ) → ℕ
sum_below zero f = 0
sum_below (suc n) f = sum_below n f + f n

-- how many numbers below n pass the test
abbrev pub count_below : ℕ → (ℕ → Bool) → ℕ
count_below n test = sum_below n (λ k. number_of (test k))

-- how many pairs of a number below m and one below n pass it
abbrev pub count_pairs : ℕ → ℕ → (ℕ → ℕ → Bool) → ℕ
count_pairs m n test = sum_below m (λ k. count_below n (test k))
