use Rattle.std.proofs.Common.{◌+◌}
use Rattle.due_parity.specs.Rows.{IsNotedIn}
use Rattle.due_parity.specs.Touches.{register_touch_by}
use Rattle.due_parity.proofs.registers.note_registers.Given as goal

abbrev pub invariant-loop-group : goal.invariant-loop-group
invariant-loop-group l = IsNotedIn (λ g. register_touch_by (g + 1) l.rd l.op) l.cycle 0 l.group l.fn.rows l.rows
