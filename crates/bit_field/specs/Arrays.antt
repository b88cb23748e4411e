-- A value seen as equal elements of w bits each, one after another.
use Rattle.std.specs.Prelude.{◌≡◌, ℕ, ◌/◌, ◌%◌, Bool, false, not, List, length}
use Rattle.std.specs.Prelude.{slice_index_or, slice_set}
use Rattle.std.specs.List.{All}
use Rattle.bit_field.specs.Layouts.{number_of}

-- bit k, by the bits of an element; d is any element, and never read where the list has an element for bit k
abbrev pub bit_of_array : {A : Type 0} → ℕ → A → (A → ℕ → ℕ) → List A → ℕ → ℕ
bit_of_array w d bit_of xs k = bit_of (slice_index_or xs (k / w) d) (k % w)

-- the elements with bit k flipped, by the flip of an element
abbrev pub flip_array : {A : Type 0} → ℕ → A → (A → ℕ → A) → List A → ℕ → List A
flip_array w d flipped xs k = slice_set xs (k / w) (flipped (slice_index_or xs (k / w) d) (k % w))

-- there are n elements, and each fits
abbrev pub IsArray : {A : Type 0} → ℕ → (A → Type 0) → List A → Type 0
IsArray n IsFit xs = (length xs ≡ n) × All IsFit xs

-- elements of one bit
abbrev pub bit_of_flags : List Bool → ℕ → ℕ
bit_of_flags xs k = number_of (slice_index_or xs k false)

abbrev pub flip_flag : List Bool → ℕ → List Bool
flip_flag xs k = slice_set xs k (not (slice_index_or xs k false))
