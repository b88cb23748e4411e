-- How a structure's fields stand in its bits: one after another, each from its lowest bit.
use Rattle.std.specs.Prelude.{ℕ, ◌+◌, ◌-◌, ◌^◌, ◌<◌, Bool, List, [], ◌∷◌, Option, Some, None, cond, nat_lt, bit_xor}
use Rattle.std.specs.Int.{bit_at}

-- a number with bit i flipped
abbrev pub flip : ℕ → ℕ → ℕ
flip v i = bit_xor v (2 ^ i)

-- the number that a field of one bit holds
abbrev pub number_of : Bool → ℕ
number_of b = cond b 1 0

-- The fields F of a structure S, in bit order, and what each of them is.
pub record Layout (S F : Type 0) : Type 0 where
  pub fields : List F
  pub width : F → ℕ  -- its number of bits
  pub value : S → F → ℕ  -- the number that it holds
  pub flip_in : S → F → ℕ → S  -- the structure with a bit of the field flipped

-- the number of bits of such fields
abbrev pub bits_of : {F : Type 0} → (F → ℕ) → List F → ℕ
bits_of width [] = 0
bits_of width (f ∷ fs) = width f + bits_of width fs

-- which of the fields holds bit k, and which of its own bits that is; none past the last
unfoldable pub located : {F : Type 0} → (F → ℕ) → List F → ℕ → Option (F × ℕ)
located width [] k = None
located width (f ∷ fs) k = cond (nat_lt k (width f)) (Some (f, k)) (located width fs (k - width f))

-- each field holds a number below its width
abbrev pub AreFit : {F : Type 0} → (F → ℕ) → (F → ℕ) → List F → Type 0
AreFit width value [] = Unit {0}
AreFit width value (f ∷ fs) = (value f < 2 ^ width f) × AreFit width value fs

abbrev pub bit_by : {F : Type 0} → (F → ℕ) → Option (F × ℕ) → ℕ
bit_by value None = 0
bit_by value (Some p) = bit_at (value p.0) p.1

abbrev pub flip_by : {S F : Type 0} → (F → ℕ → S) → S → Option (F × ℕ) → S
flip_by flip_in x None = x
flip_by flip_in x (Some p) = flip_in p.0 p.1

-- ---- a structure of that layout

abbrev pub bit_count : {S F : Type 0} → Layout S F → ℕ
bit_count l = bits_of l.width l.fields

-- the field that holds bit k, and which of the field's bits that is
abbrev pub field_of : {S F : Type 0} → Layout S F → ℕ → Option (F × ℕ)
field_of l k = located l.width l.fields k

abbrev pub IsFit : {S F : Type 0} → Layout S F → S → Type 0
IsFit l x = AreFit l.width (l.value x) l.fields

-- bit k, 0 or 1
abbrev pub bit_of : {S F : Type 0} → Layout S F → S → ℕ → ℕ
bit_of l x k = bit_by (l.value x) (field_of l k)

-- the structure with bit k flipped
abbrev pub flipped : {S F : Type 0} → Layout S F → S → ℕ → S
flipped l x k = flip_by (l.flip_in x) x (field_of l k)
