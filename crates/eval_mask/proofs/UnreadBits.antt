-- A bit of EX/MEM that its action doesn't show.
use Rattle.std.proofs.Common.{◌≡◌, ◌↔◌, ℕ, Bool, true, false, refl, sym, ◌∙◌, ap, arith}
use Rattle.std.specs.Prelude.{IsTrue, not}
use Rattle.elf_load.specs.Image.{LoadedImage}
use Rattle.rv_table.specs.declared.action.Action.{Action}
use Rattle.rv_table.specs.Actions.{is_clocked}
use Rattle.rv_isa.specs.Architecture.{ArchState}
use Rattle.rv_isa.specs.Instruction.{State}
use Rattle.pipe_latch.specs.LatchedActions.{action_of}
use Rattle.pipe_latch.specs.Latches.{DecodedLatch, ExecutedLatch, ResultLatch, op_of_latch}
use Rattle.cyc_machine.specs.InFlight.{completed_item, is_latch_reached, item_of_latch, latches_completed, outcome}
use Rattle.need_pass.specs.Tables.{Needs}
use Rattle.eval_mask.specs.Agreement.{Agree}
use Rattle.eval_mask.specs.Cases.{IsCase}
use Rattle.eval_mask.specs.LatchMasks.{reads_clock}
use Rattle.eval_mask.specs.declared.cases.Case.{Case}
use Rattle.eval_mask.proofs.Masked.{IsAskedOf}
use Rattle.std.specs.Prelude.{◌&&◌, if◌then◌else◌}

same_outcome : (image : LoadedImage) (w : ResultLatch) (m other : ExecutedLatch) (d : DecodedLatch) (at : State) → action_of other ≡ action_of m
    → outcome image w other d at ≡ outcome image w m d at
unfolding outcome
same_outcome image w m other d at e =
    ap (λ (done : Action).
    if is_latch_reached d (latches_completed image done w at)
    then completed_item image (item_of_latch image done w at.memory d) (latches_completed image done w at)
    else latches_completed image done w at) e

same_clock : (image : LoadedImage) (w : ResultLatch) (m other : ExecutedLatch) (d : DecodedLatch) (at : State) → action_of other ≡ action_of m
    → reads_clock image (record { w = w; m = other; d = d }) at ≡ reads_clock image (record { w = w; m = m; d = d }) at
unfolding reads_clock
same_clock image w m other d at e = ap (λ (done : Action). is_latch_reached d (latches_completed image done w at) && is_clocked (op_of_latch d)) e

agrees_itself : (needs : Needs) (j : ℕ) (a b : State) → a ≡ b → Agree needs j a b
agrees_itself needs j a b e = rw e (record { output = refl; stop = refl; next = λ none. (refl, record { same = λ p is need. refl }) })

not_read : (t : Bool) → IsTrue (not t) → t ≡ false
not_read true e = absurd (grind arith)
not_read false e = refl

pub unread_exactly : (needs : Needs) (arch : ArchState) (w : ResultLatch) (m other : ExecutedLatch) (d : DecodedLatch) (case : Case) → IsCase needs arch w m d case
    → action_of other ≡ action_of m
    → IsTrue (not case.reads_clock) ↔ IsAskedOf needs arch case (record { w = w; m = m; d = d }) (record { w = w; m = other; d = d })
unread_exactly needs arch w m other d case is e = (
  λ t. record {
    unread = same_clock arch.image w m other d _ e ∙ sym is.clock ∙ not_read case.reads_clock t;
    agree = agrees_itself needs case.first_after _ _ (same_outcome arch.image w m other d _ e);
  },
  λ k. rw (is.clock ∙ sym (same_clock arch.image w m other d _ e) ∙ k.unread) refl,
)
