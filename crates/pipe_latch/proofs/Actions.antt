-- What an instruction asks for stays within the widths of EX/MEM.
use Rattle.std.specs.Prelude.{◌≢◌, ℕ, ◌≤◌, Bool}
use Rattle.std.proofs.Common.{arith}
use Rattle.std.proofs.lemmas.Bool.Decides.{nat_tests}
use Rattle.rv_table.specs.Actions.{action, asked, asked_by, judged}
use Rattle.rv_table.specs.Operations.{operation_of}
use Rattle.rv_table.specs.Effects.{written_register}
use Rattle.rv_table.specs.declared.op.Op.{Op}
use Rattle.rv_table.specs.declared.operation.Operation.{Operation}
use Rattle.rv_table.specs.declared.action.Action.{Action}
use Rattle.rv_table.specs.declared.action.Action.TheVariants.{Nothing}
use Rattle.pipe_latch.specs.LatchedActions.{trap_number}

asked_by-register : (o : Operation) (op : Op) (pc a b : ℕ) → written_register (asked_by o op pc a b) ≤ op.rd
unfolding asked_by
asked_by-register o op pc a b = grind (arith, nat_tests)

asked_by-trap : (o : Operation) (op : Op) (pc a b : ℕ) → trap_number (asked_by o op pc a b) ≤ 8
unfolding asked_by
asked_by-trap o op pc a b = grind (arith, nat_tests)

judged-register : (ram executable : ℕ → Bool) (asked_for : Action) → written_register (judged ram executable asked_for) ≤ written_register asked_for
unfolding judged
judged-register ram executable asked_for = grind (arith, nat_tests)

judged-trap : (ram executable : ℕ → Bool) (asked_for : Action) → trap_number asked_for ≤ 8 → trap_number (judged ram executable asked_for) ≤ 8
unfolding judged
judged-trap ram executable asked_for h = grind (arith, nat_tests)

-- it writes the instruction's own register or none
pub action_register : (ram executable : ℕ → Bool) (op : Op) (pc a b : ℕ) → written_register (action ram executable op pc a b) ≤ op.rd
unfolding action asked
action_register ram executable op pc a b =
    let least : written_register (asked_by (operation_of op.code) op pc a b) ≤ op.rd = asked_by-register (operation_of op.code) op pc a b in
    let judge : written_register (judged ram executable (asked_by (operation_of op.code) op pc a b)) ≤ written_register (asked_by (operation_of op.code) op pc a b) =
    judged-register ram executable (asked_by (operation_of op.code) op pc a b) in
    omega arith

-- an instruction's traps are 1 to 8
pub action_trap : (ram executable : ℕ → Bool) (op : Op) (pc a b : ℕ) → trap_number (action ram executable op pc a b) ≤ 8
unfolding action asked
action_trap ram executable op pc a b = judged-trap ram executable (asked_by (operation_of op.code) op pc a b) (asked_by-trap (operation_of op.code) op pc a b)

-- each instruction does something
asked_by-something : (o : Operation) (op : Op) (pc a b : ℕ) → asked_by o op pc a b ≢ Nothing
unfolding asked_by
asked_by-something o op pc a b = grind (arith, nat_tests)

judged-something : (ram executable : ℕ → Bool) (asked_for : Action) → asked_for ≢ Nothing → judged ram executable asked_for ≢ Nothing
unfolding judged
judged-something ram executable asked_for h = grind (arith, nat_tests)

pub action-something : (ram executable : ℕ → Bool) (op : Op) (pc a b : ℕ) → action ram executable op pc a b ≢ Nothing
unfolding action asked
action-something ram executable op pc a b =
    judged-something ram executable (asked_by (operation_of op.code) op pc a b) (asked_by-something (operation_of op.code) op pc a b)
