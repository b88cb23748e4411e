-- RAM as a function of byte addresses, and stores into it.
use Rattle.std.proofs.Common.{◌≡◌, ℕ, ◌+◌, ◌-◌, ◌*◌, ◌/◌, ◌%◌, ◌<◌, ◌≤◌, true, List, length, replicate, refl, sym, arith}
use Rattle.std.specs.Prelude.{slice_index, Some, IsTrue}
use Rattle.std.proofs.Math.Path.{fun_ext}
use Rattle.std.proofs.lemmas.Bool.Decides.{nat_tests}
use Rattle.elf_load.specs.Image.{LoadedImage, in_ram, word_in_ram, ram_byte}
use Rattle.rv_isa.proofs.Lists.{all_zero}
use Rattle.rv_isa.specs.Architecture.{byte_stored, state_of}
use Rattle.rv_isa.specs.Effects.{IsInRam, with_store}
use Rattle.rv_isa.specs.Runs.{reset}
use Rattle.rv_table.specs.Accesses.{byte_of, loaded, word_at, word_of_bytes}
use Rattle.rv_table.proofs.Loads.{loaded-word}
use Rattle.rv_table.specs.declared.action.Action.TheVariants.{Loads}
use Rattle.rv_table.specs.declared.operation.LoadKind.{LoadKind}
use Rattle.rv_isa.specs.Instruction.{given}

-- 1, 2 or 4 bytes in RAM stand in its list
pub place_in_ram : (image : LoadedImage) (address size : ℕ) → IsInRam image address size → (image.base ≤ address) × (address + size ≤ image.base + length image.ram) × (size ≤ 4)
unfolding in_ram
place_in_ram image address size within =
    let first : IsTrue (in_ram image (address + 0)) = within.bytes 0 (grind (arith, within.whole)) in
    let last : IsTrue (in_ram image (address + (size - 1))) = within.bytes (size - 1) (grind (arith, within.whole)) in
    grind (arith, nat_tests, within.whole, first, last)

-- a value stored at such an address
pub stored_ram : (image : LoadedImage) (bytes old : List ℕ) (base address size value : ℕ) → base ≡ image.base → IsInRam image address size → ((p : ℕ) → slice_index bytes p ≡ byte_stored (address - base) size value old p) → ram_byte image bytes ≡ with_store (Some (address, size, value)) (ram_byte image old)
unfolding in_ram ram_byte
stored_ram image bytes old base address size value e within stored =
    let at = place_in_ram image address size within in
    fun_ext (λ p. grind (arith, nat_tests, at, stored (p - image.base)))

-- the state at reset
pub at_reset : (image : LoadedImage) (registers memory clocks left : List ℕ) (entry : ℕ) → registers ≡ replicate 32 0 → memory ≡ image.ram → entry ≡ image.entry → left ≡ clocks → state_of (record { image = image; registers = registers; memory = memory; pc = entry / 4; count = 0; clocks = left }) ≡ reset image clocks
unfolding reset
at_reset image registers memory clocks left entry r m p c = rw (r, m, p, c, all_zero 32) refl

-- the word of RAM at a byte address
pub word_there : (image : LoadedImage) (bytes : List ℕ) (address at : ℕ) → word_in_ram image (address / 4) ≡ true → at ≡ address / 4 * 4 - image.base → word_of_bytes (λ i. slice_index bytes (at + i)) ≡ word_at address (ram_byte image bytes)
unfolding word_in_ram in_ram ram_byte
word_there image bytes address at h e = grind (arith, nat_tests)

pub word_fits : (image : LoadedImage) (memory : List ℕ) (address : ℕ) → word_in_ram image (address / 4) ≡ true → length memory ≡ length image.ram → (image.base ≤ address / 4 * 4) × (address / 4 * 4 + 4 ≤ image.base + length memory)
unfolding word_in_ram in_ram
word_fits image memory address h e = grind (arith, nat_tests)

pub ruleset words = (word_there, word_fits)

-- a load of that word
pub given_load : (image : LoadedImage) (kind : LoadKind) (rd address word : ℕ) (memory : ℕ → ℕ) → word_in_ram image (address / 4) ≡ true → word ≡ word_at address memory → ((p : ℕ) → memory p < 256) → loaded kind address (λ p. byte_of word (p % 4)) ≡ given image (Loads kind rd address) memory
given_load image kind rd address word memory h e bytes = rw (e, h) (sym (loaded-word kind address memory bytes))
