-- What is worked out once of the latches, for all their bits.
use Rattle.std.specs.Prelude.{◌≡◌, ◌↔◌, ℕ, ◌<◌, slice_index}
use Rattle.std.specs.Int.{bit_at}
use Rattle.rv_table.specs.declared.action.Action.{Action}
use Rattle.rv_table.specs.declared.action.Action.TheVariants.{Writes}
use Rattle.rv_isa.specs.Architecture.{ArchState, state_of}
use Rattle.pipe_latch.specs.Latches.{DecodedLatch, ExecutedLatch, ResultLatch}
use Rattle.pipe_latch.specs.LatchedActions.{action_of}
use Rattle.need_pass.specs.Tables.{Needs}
use Rattle.eval_mask.specs.Aftermaths.{aftermath_of, doing_of, is_completed, operand_after, state_after, written}
use Rattle.eval_mask.specs.Agreement.{Agree}
use Rattle.eval_mask.specs.Compared.{IsKnown, need_at}
use Rattle.eval_mask.specs.LatchMasks.{base_of, first_after, is_on_path, reads_clock}
use Rattle.eval_mask.specs.WrittenValues.{IsLasting}
use Rattle.eval_mask.specs.declared.completing.Aftermath.{Aftermath}
use Rattle.eval_mask.specs.declared.completing.Write.{Write}
use Rattle.eval_mask.specs.declared.cases.Case.{Case}

pub record IsCase (needs : Needs) (arch : ArchState) (w : ResultLatch) (m : ExecutedLatch) (d : DecodedLatch) (case : Case) : Type 0 where
  pub oldest : case.oldest.rd ≡ w.rd
  pub first : case.first_after ≡ first_after needs d case.npc case.issued
  pub path : case.on_path ≡ is_on_path needs d case.npc case.issued
  pub executed : case.executed ≡ action_of m
  pub reached : case.reached ≡ is_completed m d case.npc
  pub clock : case.reads_clock
      ≡ reads_clock arch.image (record { w = w; m = m; d = d }) (base_of arch case.oldest.rd case.oldest.value case.npc case.issued)
  pub doing : case.doing ≡ doing_of arch.image w m d (state_of arch).memory case.issued
  pub outcome : case.own ≡ aftermath_of arch.image w m d (state_of arch).memory case.npc case.issued
  pub a : case.a ≡ operand_after case.own.below.write w d.rs1 d.a
  pub held : case.held ≡ operand_after case.own.below.write w d.rs2 d.b
  pub need : case.known.above.mask ≡ need_at needs case.own.above.write.rd case.first_after
  pub known : IsKnown needs case.first_after case.known
  pub lasting : IsLasting needs case.first_after case.own case.lasting

-- the same is left as of the latches of a case, where it is needed
abbrev pub AgreesWithOwn : Needs → ArchState → Case → Aftermath → Type 0
AgreesWithOwn needs arch case left =
    let registers = written case.oldest (slice_index arch.registers) in
    Agree needs case.first_after (state_after left registers (state_of arch).memory) (state_after case.own registers (state_of arch).memory)

-- ID/EX has the operands of a case, where EX/MEM writes this
pub record SameOperands (w : ResultLatch) (d : DecodedLatch) (below : Write) (case : Case) : Type 0 where
  pub a : operand_after below w d.rs1 d.a ≡ case.a
  pub held : operand_after below w d.rs2 d.b ≡ case.held

-- both actions write register rd, these values, and do nothing else
pub record WriteBoth (rd : ℕ) (a b : Action) (x y : ℕ) : Type 0 where
  pub first : a ≡ Writes rd x
  pub second : b ≡ Writes rd y

-- the bits of a mask are those below n of which P holds
pub record IsMaskBelow (n : ℕ) (P : ℕ → Type 0) (mask : ℕ) : Type 0 where
  pub bits : (k : ℕ) → (bit_at mask k ≡ 1) ↔ ((k < n) × P k)
