-- Operands in EX and in ID: what forwarding makes of a held value. W is MEM/WB; M is what EX/MEM does.
use Rattle.std.specs.Prelude.{◌≡◌, ◌≢◌, ℕ, ◌≤◌, false, IsTrue, ◌==◌, if◌then◌else◌}
use Rattle.rv_table.specs.declared.action.Action.{Action}
use Rattle.rv_table.specs.declared.action.Action.TheVariants.{Writes}
use Rattle.rv_table.specs.Effects.{is_load, written_register}
use Rattle.pipe_latch.specs.Latches.{ExecutedLatch, ResultLatch}
use Rattle.pipe_latch.specs.declared.forward.Forwarded.{Forwarded}
use Rattle.pipe_latch.specs.declared.forward.Forwarded.TheVariants.{Value, Wait}

-- what M forwards without waiting for memory
abbrev pub result_of : Action → ℕ
result_of (Writes rd value) = value
result_of _ = 0

-- The operand of register rs with the held value: register 0 is never forwarded, a load in M must be waited for,
-- M is younger than W.
unfoldable pub operand : Action → ResultLatch → ℕ → ℕ → Forwarded
operand m w rs held =
    if rs == 0 then Value held else
    (if rs == written_register m then (if is_load m then Wait else Value (result_of m)) else
    (if rs == w.rd then Value w.value else Value held))

-- the late value of register rs: what W holds for it, else the value held so far
unfoldable pub late : ResultLatch → ℕ → ℕ → ℕ
late w rs held = if rs == 0 then held else (if rs == w.rd then w.value else held)

-- EX/MEM holds a load of register rs, which isn't register 0: the kinds 1 to 5 are the loads.
abbrev pub IsAwaited : ExecutedLatch → ℕ → Type 0
IsAwaited m rs = (rs ≢ 0) × IsTrue m.valid × (1 ≤ m.kind) × (m.kind ≤ 5) × (m.rd ≡ rs)

-- an operand's value, with what completing M writes in place of one that must be waited for
abbrev pub settled : Forwarded → ℕ → ℕ
settled (Value value) written = value
settled Wait written = written

-- this value is what completing M writes: its result, or what a load gets from memory
abbrev pub IsWrittenBy : Action → ℕ → Type 0
IsWrittenBy m written = is_load m ≡ false → written ≡ result_of m
