-- What branches, loads, stores and codes without an instruction in ID/EX do, without the operation.
use Rattle.std.specs.Prelude.{◌≡◌, ◌⊎◌, ℕ, ◌/◌, ◌*◌, ◌&&◌, Bool, IsTrue, not, if◌then◌else◌}
use Rattle.elf_load.specs.Image.{LoadedImage, executable, word_in_ram}
use Rattle.rv_table.specs.Actions.{holds, is_aligned, judged, load_asked, next_word, store_asked}
use Rattle.rv_table.specs.Arithmetic.{sum32}
use Rattle.rv_table.specs.declared.action.Action.{Action}
use Rattle.rv_table.specs.declared.action.Action.TheVariants.{Traps, Writes}
use Rattle.rv_table.specs.declared.operation.BranchKind.{BranchKind}
use Rattle.rv_table.specs.declared.operation.LoadKind.{LoadKind}
use Rattle.rv_table.specs.declared.operation.StoreKind.{StoreKind}
use Rattle.rv_table.specs.declared.trap.TheConstants.{ILLEGAL_INSTRUCTION, MISALIGNED_TARGET}
use Rattle.pipe_latch.specs.Latches.{DecodedLatch}
use Rattle.eval_mask.specs.declared.completing.Doing.{Doing}

-- an action as an image's memory judges it
abbrev pub judged_in : LoadedImage → Action → Action
judged_in image done = judged (word_in_ram image) (executable image) done

-- a code without an instruction traps
abbrev pub illegal_doing : DecodedLatch → Doing
illegal_doing d = record { action = Traps ILLEGAL_INSTRUCTION; next = next_word d.pc }

-- what a branch does that is taken or not; one to a target that is no multiple of 4 traps
abbrev pub way_doing : DecodedLatch → Bool → Doing
way_doing d taken =
    let target = if taken then sum32 (4 * d.pc) d.imm else sum32 (4 * d.pc) 4 in
    record {
      action = if taken && not (is_aligned 4 target) then Traps MISALIGNED_TARGET else Writes 0 0;
      next = if taken && is_aligned 4 target then target / 4 else next_word d.pc;
    }

abbrev pub branch_doing : DecodedLatch → BranchKind → ℕ → ℕ → Doing
branch_doing d kind a b = way_doing d (holds kind a b)

-- a branch goes as its own one, or turning it leaves the same
pub record StaysOr (way own turned : Bool) : Type 0 where
  pub stays : (way ≡ own) ⊎ IsTrue turned

abbrev pub load_doing : LoadedImage → DecodedLatch → LoadKind → ℕ → Doing
load_doing image d kind a = record { action = judged_in image (load_asked kind d.rd (sum32 a d.imm)); next = next_word d.pc }

abbrev pub store_doing : LoadedImage → DecodedLatch → StoreKind → ℕ → ℕ → Doing
store_doing image d kind a held = record { action = judged_in image (store_asked kind (sum32 a d.imm) held); next = next_word d.pc }
