-- An action into EX/MEM, and back out of whatever that latch holds.
use Rattle.std.specs.Prelude.{ℕ, true, slice_index_or, if◌then◌else◌}
use Rattle.rv_table.specs.declared.operation.LoadKind.TheVariants.{Lb, Lh, Lw, Lbu, Lhu}
use Rattle.rv_table.specs.declared.operation.StoreKind.TheVariants.{Sb, Sh, Sw}
use Rattle.rv_table.specs.declared.action.Action.{Action}
use Rattle.rv_table.specs.declared.action.Action.TheVariants.{Nothing, Writes, Loads, Stores, Puts, Exits, Traps}
use Rattle.pipe_latch.specs.Latches.{ExecutedLatch, no_executed}
use Rattle.pipe_latch.specs.declared.kinds.ExMemKind.{ExMemKind}
use Rattle.pipe_latch.specs.declared.kinds.ExMemKind.TheVariants.{WriteBack, Load, Store, Put, Exit, Trap}
use Rattle.pipe_latch.specs.declared.kinds.TheConstants.{EX_MEM_KINDS}

-- the kind of a number in EX/MEM; one past the last acts as 0
unfoldable pub kind_of : ℕ → ExMemKind
kind_of number = slice_index_or EX_MEM_KINDS number WriteBack

-- and the number of a kind
abbrev pub kind_number : ExMemKind → ℕ
kind_number WriteBack = 0
kind_number (Load Lb) = 1
kind_number (Load Lh) = 2
kind_number (Load Lw) = 3
kind_number (Load Lbu) = 4
kind_number (Load Lhu) = 5
kind_number (Store Sb) = 6
kind_number (Store Sh) = 7
kind_number (Store Sw) = 8
kind_number Put = 9
kind_number Exit = 10
kind_number Trap = 11

-- the latch that EX writes
unfoldable pub latch_of : Action → ExecutedLatch
latch_of Nothing = no_executed
latch_of (Writes rd value) = record { valid = true; kind = kind_number WriteBack; rd = rd; x = value; y = 0; cause = 0 }
latch_of (Loads kind rd address) = record { valid = true; kind = kind_number (Load kind); rd = rd; x = address; y = 0; cause = 0 }
latch_of (Stores kind address value) = record { valid = true; kind = kind_number (Store kind); rd = 0; x = address; y = value; cause = 0 }
latch_of (Puts value) = record { valid = true; kind = kind_number Put; rd = 0; x = value; y = 0; cause = 0 }
latch_of (Exits value) = record { valid = true; kind = kind_number Exit; rd = 0; x = value; y = 0; cause = 0 }
latch_of (Traps cause) = record { valid = true; kind = kind_number Trap; rd = 0; x = 0; y = 0; cause = cause }

-- what the memory stage does with a latch by its kind
abbrev pub action_by : ExMemKind → ExecutedLatch → Action
action_by WriteBack m = Writes m.rd m.x
action_by (Load kind) m = Loads kind m.rd m.x
action_by (Store kind) m = Stores kind m.x m.y
action_by Put m = Puts m.x
action_by Exit m = Exits m.x
action_by Trap m = Traps m.cause

-- what it does with a latch, whatever that holds: with an invalid one nothing
unfoldable pub action_of : ExecutedLatch → Action
action_of m = if m.valid then action_by (kind_of m.kind) m else Nothing

-- the number of the trap that an action is, else 0
abbrev pub trap_number : Action → ℕ
trap_number (Traps cause) = cause
trap_number _ = 0
