-- When an operand waits.
use Rattle.std.specs.Prelude.{◌≡◌, ◌≢◌, ◌↔◌, ℕ, ◌≤◌, true, IsTrue}
use Rattle.std.proofs.Common.{arith}
use Rattle.std.proofs.lemmas.Bool.Decides.{nat_tests}
use Rattle.rv_table.specs.declared.action.Action.{Action}
use Rattle.rv_table.specs.Effects.{is_load, written_register}
use Rattle.pipe_latch.specs.Latches.{ExecutedLatch, ResultLatch}
use Rattle.pipe_latch.specs.LatchedActions.{action_of}
use Rattle.pipe_latch.specs.Forwarding.{operand, IsAwaited}
use Rattle.pipe_latch.proofs.KindTests.{action_of-tests}
use Rattle.pipe_latch.specs.declared.forward.Forwarded.TheVariants.{Wait}

-- an operand waits only for a load of its register
pub operand-waits : (a : Action) (w : ResultLatch) (rs held : ℕ) → operand a w rs held ≡ Wait → (rs ≢ 0) × (is_load a ≡ true) × (rs ≡ written_register a)
unfolding operand
operand-waits a w rs held h = grind (arith, nat_tests)

-- the loads are the kinds 1 to 5
pub is_load-kinds : (m : ExecutedLatch) → is_load (action_of m) ≡ true → IsTrue m.valid × (1 ≤ m.kind) × (m.kind ≤ 5) × (written_register (action_of m) ≡ m.rd)
is_load-kinds m h = grind (arith, nat_tests, action_of-tests m)

pub operand-awaited : (m : ExecutedLatch) (w : ResultLatch) (rs held : ℕ) → IsAwaited m rs → operand (action_of m) w rs held ≡ Wait
unfolding operand
operand-awaited m w rs held h = grind (arith, nat_tests, action_of-tests m)

pub waits_exactly : (m : ExecutedLatch) (w : ResultLatch) (rs held : ℕ) → (operand (action_of m) w rs held ≡ Wait) ↔ IsAwaited m rs
waits_exactly m w rs held = (
  λ h.
      let waits : (rs ≢ 0) × (is_load (action_of m) ≡ true) × (rs ≡ written_register (action_of m)) = operand-waits (action_of m) w rs held h in
      let load : IsTrue m.valid × (1 ≤ m.kind) × (m.kind ≤ 5) × (written_register (action_of m) ≡ m.rd) = is_load-kinds m waits.1 in
      grind arith,
  operand-awaited m w rs held,
)
