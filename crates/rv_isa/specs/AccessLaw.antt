-- What holds of the accesses of instructions.
use Rattle.std.specs.Prelude.{◌≡◌, ◌≢◌, ℕ, true, Some, None}
use Rattle.elf_load.specs.Image.{LoadedImage}
use Rattle.rv_table.specs.Accesses.{accesses}
use Rattle.rv_table.specs.Actions.{access_of}
use Rattle.rv_table.specs.declared.action.Access.{Access}
use Rattle.rv_table.specs.declared.action.Action.{Action}
use Rattle.rv_isa.specs.Accesses.{address_of, line_of, next_action, next_line, recorded_address}
use Rattle.rv_isa.specs.Effects.{retired_at}
use Rattle.rv_isa.specs.Instruction.{State, end_of}

pub record AccessLaw : Type 0 where
  -- what is recorded of an instruction tells where it accesses memory
  pub recorded : (image : LoadedImage) (at : State) → recorded_address (retired_at image at).effect ≡ address_of (next_action image at)
  -- two actions with one access have one address
  pub same : (x y : Action) → access_of x ≡ access_of y → address_of x ≡ address_of y
  -- the bytes of an access are in the line of its address
  pub within : (done : Action) (access : Access) (p : ℕ) → access_of done ≡ Some access → accesses access.size access.address p ≡ true
      → line_of p ≡ line_of access.address
  -- an instruction that ends the run accesses no line
  pub ending : (image : LoadedImage) (at : State) → end_of (next_action image at) ≢ None → next_line image at ≡ None
