-- Sets of the bits of a register, as masks.
use Rattle.std.specs.Prelude.{◌≡◌, ◌↔◌, ℕ, ◌<◌}
use Rattle.std.specs.Int.{bit_at}

-- the bits of the mask are those of which P holds
abbrev pub IsMaskOf : ℕ → (ℕ → Type 0) → Type 0
IsMaskOf mask P = (k : ℕ) → k < 32 → (bit_at mask k ≡ 1) ↔ P k

-- P holds of some bit of the mask
abbrev pub HasOne : ℕ → (ℕ → Type 0) → Type 0
HasOne mask P = (j : ℕ) × (j < 32) × (bit_at mask j ≡ 1) × P j
