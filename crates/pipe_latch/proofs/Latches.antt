-- EX/MEM and actions.
use Rattle.std.specs.Prelude.{◌≡◌, ◌≢◌, ◌↔◌, ◌⊎◌, ℕ, ◌≤◌, true, false, IsTrue, refl}
use Rattle.std.proofs.Common.{arith}
use Rattle.std.proofs.lemmas.Bool.Decides.{nat_tests}
use Rattle.rv_table.specs.declared.action.Action.{Action}
use Rattle.rv_table.specs.declared.action.Action.TheVariants.{Nothing, Loads, Stores}
use Rattle.rv_table.specs.declared.operation.LoadKind.TheVariants.{Lb}
use Rattle.rv_table.specs.declared.operation.StoreKind.TheVariants.{Sb}
use Rattle.rv_table.specs.Effects.{written_register}
use Rattle.elf_load.specs.Image.{LoadedImage, executable, word_in_ram}
use Rattle.rv_table.specs.Actions.{action}
use Rattle.pipe_latch.specs.Execution.{executed}
use Rattle.pipe_latch.specs.Latches.{DecodedLatch, ExecutedLatch, no_executed, op_of_latch}
use Rattle.pipe_latch.specs.LatchedActions.{latch_of, action_of, kind_of, trap_number}
use Rattle.pipe_latch.proofs.KindTests.{action_of-tests}

-- an action that goes into EX/MEM comes out of it
pub action_of-latch_of : (a : Action) → action_of (latch_of a) ≡ a
unfolding action_of latch_of kind_of
action_of-latch_of Nothing = refl
action_of-latch_of (Loads Lb rd address) = refl
action_of-latch_of (Stores Sb address value) = refl
action_of-latch_of _ = refl

pub action_of-no_executed : action_of no_executed ≡ Nothing
unfolding action_of
action_of-no_executed = refl

-- whatever an invalid latch holds, it does nothing
pub action_of-invalid : (m : ExecutedLatch) → m.valid ≡ false → action_of m ≡ Nothing
unfolding action_of
action_of-invalid m e = grind arith

-- a valid latch does something, and so does what an action is put into
pub action_of-valid : (m : ExecutedLatch) → m.valid ≡ true → action_of m ≢ Nothing
action_of-valid m e = grind (arith, nat_tests, action_of-tests m)

pub latch_of-valid : (a : Action) → a ≢ Nothing → (latch_of a).valid ≡ true
unfolding latch_of
latch_of-valid a ne = grind arith

-- the cause is read of a trap alone
pub action_of-cause : (m : ExecutedLatch) (cause : ℕ) → m.kind ≢ 11 → action_of (record m { cause = cause }) ≡ action_of m
action_of-cause m cause ne = grind (arith, nat_tests, action_of-tests m, action_of-tests (record m { cause = cause }))

-- it writes its own register or none
pub written-latch : (m : ExecutedLatch) → written_register (action_of m) ≤ m.rd
written-latch m = grind (arith, nat_tests, action_of-tests m)

pub trap-latch : (m : ExecutedLatch) → trap_number (action_of m) ≤ m.cause
trap-latch m = grind (arith, nat_tests, action_of-tests m)

-- loads and write backs write their register, all other kinds none
pub written-load : (m : ExecutedLatch) → IsTrue m.valid → m.kind ≤ 5 → written_register (action_of m) ≡ m.rd
written-load m valid low = grind (arith, nat_tests, action_of-tests m)

pub written-back : (m : ExecutedLatch) → IsTrue m.valid → 12 ≤ m.kind → written_register (action_of m) ≡ m.rd
written-back m valid high = grind (arith, nat_tests, action_of-tests m)

pub written-none : (m : ExecutedLatch) → 6 ≤ m.kind → m.kind ≤ 11 → written_register (action_of m) ≡ 0
written-none m low high = grind (arith, nat_tests, action_of-tests m)

-- it writes register r, not 0, where it is valid, its register is r and the kind is a load or a write back
pub written-exactly : (m : ExecutedLatch) (r : ℕ) → r ≢ 0
    → (written_register (action_of m) ≡ r) ↔ (IsTrue m.valid × (m.rd ≡ r) × ((m.kind ≤ 5) ⊎ (12 ≤ m.kind)))
written-exactly m r ne = (
  λ e.
      grind (arith, nat_tests, action_of-invalid m, written-load m, written-back m, written-none m),
  λ h. grind
      (arith, nat_tests, written-load m, written-back m),
)

-- what EX writes into the latch comes out as what the instruction asks for
pub action_of-executed : (image : LoadedImage) (d : DecodedLatch) (a b : ℕ)
    → action_of (executed image d a b) ≡ action (word_in_ram image) (executable image) (op_of_latch d) d.pc a b
unfolding executed
action_of-executed image d a b = action_of-latch_of (action (word_in_ram image) (executable image) (op_of_latch d) d.pc a b)
