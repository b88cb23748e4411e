-- What memory makes of an action, by what an image tells of it.
use Rattle.std.specs.Prelude.{◌≡◌, ℕ, ◌+◌, ◌/◌, ◌%◌, ◌^◌, ◌<◌, ◌≤◌, true, length}
use Rattle.std.proofs.Common.{arith}
use Rattle.std.proofs.lemmas.Bool.Decides.{nat_tests}
use Rattle.elf_load.specs.Image.{LoadedImage, IsImage, any_executable, executable, in_ram, word_in_ram}
use Rattle.rv_table.specs.Accesses.{store_size}
use Rattle.rv_table.specs.Actions.{some_executable}
use Rattle.rv_table.specs.declared.operation.StoreKind.{StoreKind}

-- the bytes of a store, one by one
pub any_executable_some : (image : LoadedImage) (kind : StoreKind) (x : ℕ)
    → any_executable image x (store_size kind) ≡ some_executable (executable image) x (store_size kind)
unfolding any_executable
any_executable_some image kind x = grind (arith, nat_tests)

-- no access of a word in RAM goes past the last address
pub room_above : (image : LoadedImage) (kind : StoreKind) (x : ℕ) → IsImage image → word_in_ram image (x / 4) ≡ true → x + store_size kind ≤ 2 ^ 32
unfolding word_in_ram in_ram
room_above image kind x h ram =
    let aligned : image.base % 65536 ≡ 0 = h.aligned in
    let blocks : length image.ram % 65536 ≡ 0 = h.blocks in
    let below : image.base + length image.ram < 2 ^ 32 = h.below in
    grind (arith, nat_tests)
