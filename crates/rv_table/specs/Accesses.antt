-- Which bytes a load or a store accesses, and what it makes of them. An access of `size` bytes (1, 2 or 4) at byte
-- address x takes the bytes of the aligned block of that size that holds x.
use Rattle.std.specs.Prelude.{ℕ, ◌+◌, ◌-◌, ◌*◌, ◌/◌, ◌%◌, ◌^◌, ◌==◌, Bool, nat_lt, if◌then◌else◌}
use Rattle.rv_table.specs.declared.operation.LoadKind.{LoadKind}
use Rattle.rv_table.specs.declared.operation.LoadKind.TheVariants.{Lb, Lh, Lw, Lbu, Lhu}
use Rattle.rv_table.specs.declared.operation.StoreKind.{StoreKind}
use Rattle.rv_table.specs.declared.operation.StoreKind.TheVariants.{Sb, Sh, Sw}

-- how many bytes it accesses
abbrev pub load_size : LoadKind → ℕ
load_size Lb = 1
load_size Lh = 2
load_size Lw = 4
load_size Lbu = 1
load_size Lhu = 2

abbrev pub store_size : StoreKind → ℕ
store_size Sb = 1
store_size Sh = 2
store_size Sw = 4

-- whether it accesses byte p
unfoldable pub accesses : ℕ → ℕ → ℕ → Bool
accesses size x p = p / size == x / size

-- byte i of a number, from the lowest
unfoldable pub byte_of : ℕ → ℕ → ℕ
byte_of y i = y / 2 ^ (8 * i) % 2 ^ 8

-- a little-endian word of four bytes
abbrev pub word_of_bytes : (ℕ → ℕ) → ℕ
word_of_bytes bytes = bytes 0 + 2 ^ 8 * bytes 1 + 2 ^ 16 * bytes 2 + 2 ^ 24 * bytes 3

-- a number of 8 or 16 bits with copies of its sign above, as 32 bits
abbrev pub extended_byte : ℕ → ℕ
extended_byte v = if nat_lt v (2 ^ 7) then v else v + (2 ^ 32 - 2 ^ 8)

abbrev pub extended_half : ℕ → ℕ
extended_half v = if nat_lt v (2 ^ 15) then v else v + (2 ^ 32 - 2 ^ 16)

abbrev pub byte_at : ℕ → (ℕ → ℕ) → ℕ
byte_at x memory = memory x

abbrev pub half_at : ℕ → (ℕ → ℕ) → ℕ
half_at x memory = memory (x / 2 * 2) + 2 ^ 8 * memory (x / 2 * 2 + 1)

abbrev pub word_at : ℕ → (ℕ → ℕ) → ℕ
word_at x memory = word_of_bytes (λ i. memory (x / 4 * 4 + i))

-- the value of a load at byte address x, extended by its kind
unfoldable pub loaded : LoadKind → ℕ → (ℕ → ℕ) → ℕ
loaded Lb x memory = extended_byte (byte_at x memory)
loaded Lh x memory = extended_half (half_at x memory)
loaded Lw x memory = word_at x memory
loaded Lbu x memory = byte_at x memory
loaded Lhu x memory = half_at x memory

-- byte p after a store of the low bytes of y at byte address x
unfoldable pub stored : StoreKind → ℕ → ℕ → (ℕ → ℕ) → ℕ → ℕ
stored kind x y memory p = if accesses (store_size kind) x p then byte_of y (p % store_size kind) else memory p

-- Of the word that holds byte address x: the lanes that an access of `size` bytes takes, as a mask (bit l is lane l).
unfoldable pub lane_mask : ℕ → ℕ → ℕ
lane_mask size x = (2 ^ size - 1) * 2 ^ (x % 4 / size * size)

-- that word with the low bytes of y in the store's lanes and 0 in the others
unfoldable pub store_word : StoreKind → ℕ → ℕ → ℕ
store_word kind x y = y % 2 ^ (8 * store_size kind) * 2 ^ (8 * (x % 4 / store_size kind * store_size kind))
