-- What the next instruction of a state does, and the line of memory that it accesses.
use Rattle.std.specs.Prelude.{ℕ, ◌/◌, Option, Some, None, option_map}
use Rattle.std.specs.Option.{option_or}
use Rattle.elf_load.specs.Image.{LoadedImage}
use Rattle.rv_table.specs.declared.action.Action.{Action}
use Rattle.rv_table.specs.declared.action.Action.TheVariants.{Loads, Stores}
use Rattle.rv_isa.specs.declared.effect.Effect.{Effect}
use Rattle.rv_isa.specs.Effects.{operand_b}
use Rattle.rv_isa.specs.Instruction.{State, action_in, op_at, reg}

-- what the instruction at a state's address asks for and is allowed
abbrev pub next_action : LoadedImage → State → Action
next_action image at =
    let op = op_at image at.pc in
    action_in image op at.pc (reg at.registers op.rs1) (operand_b op at)

-- the byte address that an action loads from or stores to; one that traps has none
abbrev pub address_of : Action → Option ℕ
address_of (Loads kind rd x) = Some x
address_of (Stores kind x y) = Some x
address_of _ = None

-- the line of 16 bytes that holds a byte
abbrev pub line_of : ℕ → ℕ
line_of p = p / 16

-- the line that an action accesses: an access is aligned, so it lies within one line
abbrev pub accessed_line : Action → Option ℕ
accessed_line done = option_map line_of (address_of done)

-- the line that the next instruction of a state accesses
abbrev pub next_line : LoadedImage → State → Option ℕ
next_line image at = accessed_line (next_action image at)

-- the same by what is recorded of an instruction
abbrev pub recorded_address : Effect → Option ℕ
recorded_address effect = option_or (option_map (λ load. load.0) effect.load) (option_map (λ store. store.0) effect.store)

abbrev pub recorded_line : Effect → Option ℕ
recorded_line effect = option_map line_of (recorded_address effect)
