-- What is fetched: a word of 32 bits, and an operation whose fields are in range.
use Rattle.std.proofs.Common.{◌≡◌, ℕ, ◌+◌, ◌-◌, ◌*◌, ◌^◌, ◌<◌, Bool, true, false, cond, drop, arith, lit<}
use Rattle.std.specs.Prelude.{slice_index, Some, None}
use Rattle.byteorder.specs.Endian.{little_number}
use Rattle.elf_load.specs.Image.{LoadedImage, IsImage, fetch, word_executable}
use Rattle.rv_isa.proofs.Lists.{word_of_list}
use Rattle.rv_isa.specs.Instruction.{op_at, op_of_word}
use Rattle.rv_table.specs.Accesses.{word_of_bytes}
use Rattle.rv_table.proofs.DecodedFields.{IsFields, decode_fields}

word_below : (b : ℕ → ℕ) → ((i : ℕ) → b i < 256) → word_of_bytes b < 2 ^ 32
word_below b h = omega (arith, h 0, h 1, h 2, h 3)

ram_word_below : (image : LoadedImage) → IsImage image → (at : ℕ) → little_number 4 (drop at image.ram) < 2 ^ 32
ram_word_below image is at = rw (word_of_list image.ram at) (word_below (λ i. slice_index image.ram (at + i)) (λ i. is.bytes (at + i)))

pub fetched-below : (image : LoadedImage) → IsImage image → (pc word : ℕ) → fetch image pc ≡ Some word → word < 2 ^ 32
unfolding fetch
fetched-below image is pc word e = go (word_executable image pc) (little_number 4 (drop (4 * pc - image.base) image.ram)) e (ram_word_below image is (4 * pc - image.base))
  where
    some_same : (m n : ℕ) → Some m ≡ Some n → m ≡ n
    some_same m n e = cc

    go : (t : Bool) (n : ℕ) → cond t (Some n) None ≡ Some word → n < 2 ^ 32 → word < 2 ^ 32
    go true n e h = let same : n ≡ word = some_same n word e in omega arith
    go false n e h = absurd cc

pub fetched_fields : (image : LoadedImage) → IsImage image → (pc : ℕ) → IsFields (op_at image pc)
unfolding fetch
fetched_fields image is pc =
    let at : ℕ = 4 * pc - image.base in
    elim (word_executable image pc) as (λ t. IsFields (op_of_word (cond t (Some (little_number 4 (drop at image.ram))) None))) [
      | true ↦ decode_fields (little_number 4 (drop at image.ram)) (ram_word_below image is at)
      | false ↦ record { rd = lit< tt; rs1 = lit< tt; rs2 = lit< tt; imm = lit< tt }
    ]
