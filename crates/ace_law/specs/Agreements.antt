-- When what a strike leaves does the same as the recorded run, where that is needed.
use Rattle.std.specs.Prelude.{◌≡◌, ℕ, ◌+◌, false, None, [], drop}
use Rattle.rv_table.specs.Actions.{is_clocked}
use Rattle.rv_table.specs.declared.op.Op.{Op}
use Rattle.rv_isa.specs.Effects.{operated}
use Rattle.rv_isa.specs.Instruction.{State as Arch, instruction}
use Rattle.cyc_machine.specs.InFlight.{outcome}
use Rattle.cyc_machine.specs.State.{State}
use Rattle.need_pass.specs.Needed.{Needed}
use Rattle.need_pass.specs.ProgramBits.{ProgramBit, bit_of}
use Rattle.eval_mask.specs.LatchMasks.{reads_clock}
use Rattle.eval_mask.specs.Seems.{no_log}
use Rattle.flush_view.specs.Flush.{before_latches}
use Rattle.flush_view.specs.Views.{view}
use Rattle.ace_law.specs.Moments.{Moment, decoded, state, trace}

-- Two states of the instruction set, the second after a strike, do the same from instruction j on: they have put the same bytes, and both
-- have ended alike, or neither has ended, their addresses are the same and so is each bit that is needed from instruction j on.
pub record DoSame (a : Moment) (j : ℕ) (recorded struck : Arch) : Type 0 where
  pub output : struck.log.output ≡ recorded.log.output
  pub stop : struck.stop ≡ recorded.stop
  pub next : struck.stop ≡ None → (struck.pc ≡ recorded.pc) × ((p : ProgramBit) → Needed (drop j a.run.entries) p → bit_of struck p ≡ bit_of recorded p)

-- what MEM/WB, EX/MEM and ID/EX of a state are completed over, with no clock values
abbrev pub under_latches : State → Arch
under_latches s = before_latches s (view s) [] no_log

-- what they leave
abbrev pub outcome_at : State → Arch
outcome_at s = outcome s.image s.w s.m s.d (under_latches s)

-- the outcome of a struck state agrees with the recorded one, and completes no read of the cycle counter
pub record OutcomeAgrees (a : Moment) (struck : State) : Type 0 where
  pub unread : reads_clock struck.image (record { w = struck.w; m = struck.m; d = struck.d }) (under_latches struck) ≡ false
  pub same : DoSame a (decoded a) (outcome_at (state a)) (outcome_at struck)

-- the operation, in place of that of instruction i, does the same, and doesn't read the cycle counter
pub record OperationAgrees (a : Moment) (i : ℕ) (op : Op) : Type 0 where
  pub unread : is_clocked op ≡ false
  pub same : DoSame a (i + 1) (instruction a.r.image (trace a i)) (operated a.r.image op (trace a i))
