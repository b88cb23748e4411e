-- Where a run from reset stands in the instruction set's run: positions, and what of the path is on path.
use Rattle.std.specs.Prelude.{ℕ, ◌+◌, ◌-◌, ◌==◌, ◌&&◌, Bool, is_none, nat_lt, List, [], ◌∷◌, length, if◌then◌else◌}
use Rattle.elf_load.specs.Image.{LoadedImage}
use Rattle.bit_field.specs.declared.shapes.Shape.{Shape}
use Rattle.rv_isa.specs.Instruction.{State as Arch, Log}
use Rattle.cyc_machine.specs.Run.{issues_below, log_after, state_at}
use Rattle.cyc_machine.specs.State.{State, reset}
use Rattle.flush_view.specs.Flush.{path}
use Rattle.cyc_machine.specs.InFlight.{Item}

-- x(t): how many instructions have left EX before cycle t
abbrev pub left_execute : LoadedImage → Shape → ℕ → ℕ
left_execute image shape t = length (issues_below image shape t)

-- e(t): the same, less the one that EX/MEM holds
abbrev pub left_memory : LoadedImage → Shape → ℕ → ℕ
left_memory image shape t = left_execute image shape t - (if (state_at image shape t).m.valid then 1 else 0)

-- what the cycles below t were done with
abbrev pub done_below : LoadedImage → Shape → ℕ → Log
done_below image shape t = log_after t (reset image shape) (record { output = []; actions = [] })

-- whether an item of the path is at the address of instruction x, which doesn't come after the end
abbrev pub is_instruction : (ℕ → Arch) → ℕ → Item → Bool
is_instruction trace x item = is_none (trace x).stop && item.pc == (trace x).pc

-- How many entries of the path are on path: those from the first on that are at the addresses of the instructions from x on. Entry k is
-- on path where this is above k.
unfoldable pub on_path : (ℕ → Arch) → ℕ → List Item → ℕ
on_path trace x [] = 0
on_path trace x (item ∷ items) = if is_instruction trace x item then on_path trace (x + 1) items + 1 else 0

-- whether ID/EX is on path: it is occupied, and so the first entry
abbrev pub is_latch_on_path : State → (ℕ → Arch) → ℕ → Bool
is_latch_on_path s trace x = s.d.valid && nat_lt 0 (on_path trace x (path s))

-- j(t): the first instruction from x(t) on that ID/EX doesn't hold on path
abbrev pub left_decode : State → (ℕ → Arch) → ℕ → ℕ
left_decode s trace x = if is_latch_on_path s trace x then x + 1 else x
