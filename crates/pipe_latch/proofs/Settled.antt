-- What forwarding gives, before and after a cycle.
use Rattle.std.specs.Prelude.{◌≡◌, ℕ, ◌==◌, if◌then◌else◌}
use Rattle.std.proofs.Common.{arith}
use Rattle.std.proofs.lemmas.Bool.Decides.{nat_tests}
use Rattle.rv_table.specs.declared.action.Action.{Action}
use Rattle.rv_table.specs.declared.action.Action.TheVariants.{Nothing}
use Rattle.rv_table.specs.Effects.{written_register}
use Rattle.pipe_latch.specs.Latches.{ResultLatch, no_result}
use Rattle.pipe_latch.specs.Forwarding.{operand, late, settled, IsWrittenBy}
use Rattle.pipe_latch.specs.declared.forward.Forwarded.TheVariants.{Value}

-- with nothing in M an operand is the late value
pub operand-nothing : (w : ResultLatch) (rs held : ℕ) → operand Nothing w rs held ≡ Value (late w rs held)
unfolding operand late
operand-nothing w rs held = grind (arith, nat_tests)

-- M's value, else W's, else the one held
pub settled-operand : (m : Action) (w : ResultLatch) (rs held written : ℕ) → IsWrittenBy m written
    → settled (operand m w rs held) written ≡ (if rs == 0 then held else (if rs == written_register m then written else (if rs == w.rd then w.value else held)))
unfolding operand
settled-operand m w rs held written h = grind (arith, nat_tests)

-- an instruction that stays in EX while M is done: M's value is now W's, and W's is in the late value
pub settled-stays : (m : Action) (w : ResultLatch) (rs held written other : ℕ) → IsWrittenBy m written
    → settled (operand Nothing (record { rd = written_register m; value = written }) rs (late w rs held)) other ≡ settled (operand m w rs held) written
unfolding operand late
settled-stays m w rs held written other h = grind (arith, nat_tests)

-- one that stays while M waits
pub operand-waits_on : (m : Action) (w : ResultLatch) (rs held : ℕ) → operand m no_result rs (late w rs held) ≡ operand m w rs held
unfolding operand late
operand-waits_on m w rs held = grind (arith, nat_tests)

-- one that ID takes while d leaves EX and M is done: it reads what the registers hold after W, M and d
pub settled-taken : (d m : Action) (w : ResultLatch) (registers : ℕ → ℕ) (rs written given : ℕ) → IsWrittenBy d given
    → settled (operand d (record { rd = written_register m; value = written }) rs (if rs == 0 then 0 else late w rs (registers rs))) given ≡ (if rs == 0 then 0 else (if rs == written_register d then given else (if rs == written_register m then written else (if rs == w.rd then w.value else registers rs))))
unfolding operand late
settled-taken d m w registers rs written given h = grind (arith, nat_tests)

-- what W holds for register 0 is never read
pub operand-unwritten : (m : Action) (w : ResultLatch) (value rs held : ℕ) → w.rd ≡ 0 → operand m (record w { value = value }) rs held ≡ operand m w rs held
unfolding operand
operand-unwritten m w value rs held e = grind (arith, nat_tests)

pub late-unwritten : (w : ResultLatch) (value rs held : ℕ) → w.rd ≡ 0 → late (record w { value = value }) rs held ≡ late w rs held
unfolding late
late-unwritten w value rs held e = grind (arith, nat_tests)
