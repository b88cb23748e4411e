-- Branches, loads and stores in ID/EX do what their operation says.
use Rattle.std.proofs.Common.{◌≡◌, ℕ, ◌*◌, Bool, true, false, refl, ap}
use Rattle.std.specs.Prelude.{◌&&◌, not, if◌then◌else◌}
use Rattle.elf_load.specs.Image.{LoadedImage, executable, word_in_ram}
use Rattle.rv_table.specs.Actions.{action, asked, asked_by, counter_by, holds, is_aligned, judged, next_address, taken_by, target_by, value_by, with_counter}
use Rattle.rv_table.specs.Arithmetic.{sum32}
use Rattle.rv_table.specs.Operations.{operation_of}
use Rattle.rv_table.specs.declared.action.Action.{Action}
use Rattle.rv_table.specs.declared.action.Action.TheVariants.{Traps, Writes}
use Rattle.rv_table.specs.declared.trap.TheConstants.{MISALIGNED_TARGET}
use Rattle.rv_table.specs.declared.operation.BranchKind.{BranchKind}
use Rattle.rv_table.specs.declared.operation.LoadKind.{LoadKind}
use Rattle.rv_table.specs.declared.operation.StoreKind.{StoreKind}
use Rattle.rv_table.specs.declared.operation.Operation.TheVariants.{Branch, Illegal, Load, Store}
use Rattle.pipe_latch.specs.Latches.{DecodedLatch}
use Rattle.eval_mask.specs.Aftermaths.{doing_with}
use Rattle.eval_mask.specs.QuickDoings.{branch_doing, illegal_doing, load_doing, store_doing}
use Rattle.eval_mask.specs.declared.completing.Doing.{Doing}

abbrev doing : Action → ℕ → Doing
doing done next = record { action = done; next = next }

judged_or : (image : LoadedImage) (t : Bool) (cause rd v : ℕ)
    → (if t then Traps cause else Writes rd v) ≡ judged (word_in_ram image) (executable image) (if t then Traps cause else Writes rd v)
unfolding judged
judged_or image true cause rd v = refl
judged_or image false cause rd v = refl

pub illegal_is : (image : LoadedImage) (d : DecodedLatch) (x a held : ℕ) → operation_of d.op ≡ Illegal → illegal_doing d ≡ doing_with image d x a held
unfolding doing_with action judged asked asked_by value_by next_address taken_by target_by with_counter counter_by
illegal_is image d x a held e = rw e refl

pub branch_is : (image : LoadedImage) (d : DecodedLatch) (x a held : ℕ) (kind : BranchKind) → operation_of d.op ≡ Branch kind
    → branch_doing d kind a held ≡ doing_with image d x a held
unfolding doing_with action asked asked_by value_by next_address taken_by target_by with_counter counter_by
branch_is image d x a held kind e =
    let own = branch_doing d kind a held in
    let target = if holds kind a held then sum32 (4 * d.pc) d.imm else sum32 (4 * d.pc) 4 in
    rw e
    (ap (λ (done : Action). doing done own.next) (judged_or image (holds kind a held && not (is_aligned 4 target)) MISALIGNED_TARGET 0 0))

pub load_is : (image : LoadedImage) (d : DecodedLatch) (x a held : ℕ) (kind : LoadKind) → operation_of d.op ≡ Load kind
    → load_doing image d kind a ≡ doing_with image d x a held
unfolding doing_with action asked asked_by value_by next_address taken_by target_by with_counter counter_by
load_is image d x a held kind e = rw e refl

pub store_is : (image : LoadedImage) (d : DecodedLatch) (x a held : ℕ) (kind : StoreKind) → operation_of d.op ≡ Store kind
    → store_doing image d kind a held ≡ doing_with image d x a held
unfolding doing_with action asked asked_by value_by next_address taken_by target_by with_counter counter_by
store_is image d x a held kind e = rw e refl

pub ruleset quick_doings = (illegal_is, branch_is, load_is, store_is)
