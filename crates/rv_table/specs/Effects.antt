-- What an action does to registers and output.
use Rattle.std.specs.Prelude.{ℕ, ◌%◌, ◌^◌, Option, Some, None, Bool, true, false}
use Rattle.rv_table.specs.declared.action.Action.{Action}
use Rattle.rv_table.specs.declared.action.Action.TheVariants.{Writes, Loads, Puts}

-- the register that it writes, or 0
abbrev pub written_register : Action → ℕ
written_register (Writes rd value) = rd
written_register (Loads kind rd address) = rd
written_register _ = 0

abbrev pub is_load : Action → Bool
is_load (Loads kind rd address) = true
is_load _ = false

-- the byte that it puts
abbrev pub byte_put : Action → Option ℕ
byte_put (Puts value) = Some (value % 2 ^ 8)
byte_put _ = None
