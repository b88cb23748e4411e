-- What EX/MEM changes is part of the outcome, whether or not ID/EX is reached.
use Rattle.std.proofs.Common.{◌≡◌, ℕ, Bool, true, false, refl}
use Rattle.std.specs.Prelude.{if◌then◌else◌}
use Rattle.rv_isa.specs.Architecture.{ArchState, state_of}
use Rattle.rv_table.specs.declared.action.Action.{Action}
use Rattle.pipe_latch.specs.LatchedActions.{action_of}
use Rattle.pipe_latch.specs.Latches.{DecodedLatch, ExecutedLatch, ResultLatch}
use Rattle.need_pass.specs.Tables.{Needs}
use Rattle.elf_load.specs.Image.{LoadedImage}
use Rattle.eval_mask.specs.Aftermaths.{aftermath_of, change_of, is_completed, left_by, write_by_action}
use Rattle.eval_mask.specs.Cases.{IsCase}
use Rattle.eval_mask.specs.declared.completing.Aftermath.{Aftermath}
use Rattle.eval_mask.specs.declared.completing.Change.{Change}
use Rattle.eval_mask.specs.declared.cases.Case.{Case}

below_if : (t : Bool) (x y : Aftermath) (below : Change) → x.below ≡ below → y.below ≡ below → (if t then x else y).below ≡ below
below_if true x y below e f = e
below_if false x y below e f = f

below_of : (image : LoadedImage) (w : ResultLatch) (m : ExecutedLatch) (d : DecodedLatch) (memory : ℕ → ℕ) (npc x : ℕ)
    → (aftermath_of image w m d memory npc x).below ≡ change_of image (action_of m) memory
unfolding aftermath_of left_by
below_of image w m d memory npc x = below_if (is_completed m d npc) _ _ _ refl refl

pub own_below : (needs : Needs) (arch : ArchState) (w : ResultLatch) (m : ExecutedLatch) (d : DecodedLatch) (case : Case) → IsCase needs arch w m d case
    → case.own.below ≡ change_of arch.image (action_of m) (state_of arch).memory
own_below needs arch w m d case is = rw is.outcome (below_of arch.image w m d (state_of arch).memory case.npc case.issued)

pub write_of_change : (image : LoadedImage) (done : Action) (memory : ℕ → ℕ) (below : Change) → below ≡ change_of image done memory
    → below.write ≡ write_by_action image done memory
unfolding change_of
write_of_change image done memory below e = rw e refl

pub own_write : (needs : Needs) (arch : ArchState) (w : ResultLatch) (m : ExecutedLatch) (d : DecodedLatch) (case : Case) → IsCase needs arch w m d case
    → case.own.below.write ≡ write_by_action arch.image (action_of m) (state_of arch).memory
own_write needs arch w m d case is = write_of_change arch.image (action_of m) (state_of arch).memory case.own.below (own_below needs arch w m d case is)
