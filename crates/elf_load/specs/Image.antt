-- An image as loaded: what every later theorem starts from.
use Rattle.std.specs.Prelude.{◌≡◌, ℕ, zero, suc, ◌+◌, ◌-◌, ◌*◌, ◌/◌, ◌%◌, ◌^◌, ◌<◌, Bool, false, ◌&&◌, ◌||◌, nat_le, nat_lt, if◌then◌else◌, List, length}
use Rattle.std.specs.Prelude.{drop, slice_index, slice_index_or, Option, Some, None, IsSome}
use Rattle.byteorder.specs.Endian.{little_number}
use Rattle.elf_load.specs.declared.sizes.TheConstants.{BLOCK}

-- RAM with what the program headers put there, and where the program begins.
pub record LoadedImage : Type 0 where
  pub base : ℕ  -- byte address of the first byte of RAM
  pub ram : List ℕ  -- the bytes of RAM as loaded
  pub code : List Bool  -- of each byte of RAM, whether an executable segment holds it
  pub entry : ℕ  -- byte address of the first instruction

-- whether the byte at this byte address lies in RAM
unfoldable pub in_ram : LoadedImage → ℕ → Bool
in_ram image a = nat_le image.base a && nat_lt a (image.base + length image.ram)

-- main memory by byte address, from the list of RAM's bytes; 0 outside RAM
unfoldable pub ram_byte : LoadedImage → List ℕ → ℕ → ℕ
ram_byte image memory p = if in_ram image p then slice_index memory (p - image.base) else 0

-- whether the byte at this byte address lies in RAM and an executable segment holds it
unfoldable pub executable : LoadedImage → ℕ → Bool
executable image a = in_ram image a && slice_index_or image.code (a - image.base) false

-- whether one of the `size` bytes from this byte address on is executable
unfoldable pub any_executable : LoadedImage → ℕ → ℕ → Bool
any_executable image a zero = false
any_executable image a (suc size) = any_executable image a size || executable image (a + size)

-- whether all four bytes at this word address lie in RAM
unfoldable pub word_in_ram : LoadedImage → ℕ → Bool
word_in_ram image w =
    in_ram image (4 * w) && in_ram image (4 * w + 1) && in_ram image (4 * w + 2) && in_ram image (4 * w + 3)

-- whether all four bytes at this word address are executable
unfoldable pub word_executable : LoadedImage → ℕ → Bool
word_executable image w =
    executable image (4 * w) && executable image (4 * w + 1) && executable image (4 * w + 2) && executable image (4 * w + 3)

-- the instruction word at this word address, lowest byte first, where all four bytes are executable
unfoldable pub fetch : LoadedImage → ℕ → Option ℕ
fetch image w = if word_executable image w then Some (little_number 4 (drop (4 * w - image.base) image.ram)) else None

-- What holds of every image that was loaded: RAM is a whole number of blocks at a block's address, below 2^32;
-- each byte has a flag; the entry is a word address and the word there can be fetched.
pub record IsImage (image : LoadedImage) : Type 0 where
  pub aligned : image.base % BLOCK ≡ 0
  pub blocks : length image.ram % BLOCK ≡ 0
  pub below : image.base + length image.ram < 2 ^ 32
  pub flags : length image.code ≡ length image.ram
  pub bytes : (k : ℕ) → slice_index image.ram k < 256
  pub entry_aligned : image.entry % 4 ≡ 0
  pub entry_executable : IsSome (fetch image (image.entry / 4))
