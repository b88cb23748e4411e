-- What memory allows of an action, as the program asks for it.
use Rattle.std.proofs.Common.{◌≡◌, ℕ, ◌+◌, ◌/◌, ◌^◌, ◌≤◌, ◌&&◌, true, Some, arith}
use Rattle.std.proofs.lemmas.Bool.Decides.{nat_tests}
use Rattle.elf_load.specs.Image.{LoadedImage, IsImage, any_executable, executable, in_ram, word_in_ram}
use Rattle.rv_table.proofs.Judged.{judged-no_access}
use Rattle.rv_table.specs.Accesses.{store_size}
use Rattle.rv_table.specs.Actions.{access_of, judged, judged_by, some_executable}
use Rattle.rv_table.specs.declared.action.Access.{Access}
use Rattle.rv_table.specs.declared.action.Action.{Action}
use Rattle.rv_table.specs.declared.operation.StoreKind.{StoreKind}
use Rattle.rv_table.specs.declared.action.Action.TheVariants.{Stores}

-- a place in RAM leaves room for four bytes
pub word_below : (image : LoadedImage) (address : ℕ) → IsImage image → word_in_ram image (address / 4) ≡ true → address + 4 ≤ 2 ^ 32
unfolding word_in_ram in_ram
word_below image address loaded h = grind (arith, nat_tests, loaded.aligned, loaded.blocks, loaded.below)

-- the bytes of a store, one by one
any_executable_some : (image : LoadedImage) (kind : StoreKind) (x : ℕ)
    → any_executable image x (store_size kind) ≡ some_executable (executable image) x (store_size kind)
unfolding any_executable
any_executable_some image kind x = grind (arith, nat_tests)

pub access_size : (action : Action) (access : Access) → access_of action ≡ Some access → access.size ≤ 4
unfolding access_of
access_size action access e = grind (arith, nat_tests)

judged_store : (image : LoadedImage) (kind : StoreKind) (x y : ℕ) → judged_by (word_in_ram image (x / 4)) (word_in_ram image (x / 4) && any_executable image x (store_size kind)) (Stores kind x y) ≡ judged (word_in_ram image) (executable image) (Stores kind x y)
unfolding judged judged_by
judged_store image kind x y = rw (any_executable_some image kind x) (grind (arith, nat_tests))

-- judged by what the program asks of the action's own access
pub allowed_at : (image : LoadedImage) (action : Action) (access : Access) → access_of action ≡ Some access → judged_by (word_in_ram image (access.address / 4)) (word_in_ram image (access.address / 4) && (access.writes && any_executable image access.address access.size)) action ≡ judged (word_in_ram image) (executable image) action
unfolding judged judged_by access_of
allowed_at image action access e = grind (arith, nat_tests, judged_store)

pub ruleset allowing = (access_size, allowed_at, judged-no_access)
