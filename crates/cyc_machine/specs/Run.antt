-- The machine's runs: the states from any state on, and what their cycles do, in order. The run of an image from reset is one of them.
use Rattle.std.specs.Prelude.{◌≡◌, ◌<◌, ◌+◌, ℕ, zero, suc, Bool, true, false, ◌&&◌, List, [], ◌∷◌, ◌++◌, Option, Some, None, if◌then◌else◌}
use Rattle.std.specs.Bool.{then_some}
use Rattle.avf_base.specs.declared.end.End.{End}
use Rattle.elf_load.specs.Image.{LoadedImage}
use Rattle.bit_field.specs.declared.shapes.Shape.{Shape}
use Rattle.rv_table.specs.Actions.{is_clocked}
use Rattle.rv_isa.specs.Instruction.{Log, logged}
use Rattle.pipe_latch.specs.Latches.{op_of_latch}
use Rattle.wb_cache.specs.declared.event.CacheEvent.{CacheEvent}
use Rattle.cyc_machine.specs.declared.fate.Fate.{Fate}
use Rattle.cyc_machine.specs.declared.fate.Fate.TheVariants.{Goes}
use Rattle.cyc_machine.specs.Cycle.{cycle, done_in, end_in, event_in, fate, put_in, retires}
use Rattle.cyc_machine.specs.State.{State, reset}

-- the state n cycles after s
unfoldable pub state_after : ℕ → State → State
state_after zero s = s
state_after (suc n) s = cycle (state_after n s)

-- What the first n cycles from s do, in order.

abbrev pub with_one : {A : Type 0} → List A → Option A → List A
with_one xs (Some x) = xs ++ x ∷ []
with_one xs None = xs

abbrev pub goes : Fate → Bool
goes (Goes a b) = true
goes _ = false

-- whether an instruction leaves EX, and whether that is a read of the cycle counter
abbrev pub issues : State → Bool
issues s = goes (fate s)

abbrev pub issues_clock : State → Bool
issues_clock s = issues s && is_clocked (op_of_latch s.d)

-- the number of the cycle, where it does something
abbrev pub cycle_if : Bool → State → Option ℕ
cycle_if does s = then_some does s.cycle

-- the bytes that they put
unfoldable pub output_after : ℕ → State → List ℕ
output_after zero s = []
output_after (suc n) s = with_one (output_after n s) (put_in (state_after n s))

-- the events of the cache
unfoldable pub events_after : ℕ → State → List CacheEvent
events_after zero s = []
events_after (suc n) s = with_one (events_after n s) (event_in (state_after n s))

-- the cycles in which an instruction leaves EX
unfoldable pub issues_after : ℕ → State → List ℕ
issues_after zero s = []
issues_after (suc n) s = with_one (issues_after n s) (cycle_if (issues (state_after n s)) (state_after n s))

-- the cycles in which a read of the cycle counter leaves EX
unfoldable pub clocks_after : ℕ → State → List ℕ
clocks_after zero s = []
clocks_after (suc n) s = with_one (clocks_after n s) (cycle_if (issues_clock (state_after n s)) (state_after n s))

-- how many instructions are retired: an occupied EX/MEM is left
unfoldable pub retired_after : ℕ → State → ℕ
retired_after zero s = 0
retired_after (suc n) s = if retires (state_after n s) then retired_after n s + 1 else retired_after n s

-- what they are done with, after what the log says
unfoldable pub log_after : ℕ → State → Log → Log
log_after zero s log = log
log_after (suc n) s log = logged (log_after n s log) (done_in (state_after n s))

-- no end comes in them
abbrev pub RunsFor : ℕ → State → Type 0
RunsFor n s = (k : ℕ) → k < n → end_in (state_after k s) ≡ None

-- the cycle that follows them ends the run, and none of them does
pub record EndsIn (s : State) (n : ℕ) (end : End) : Type 0 where
  pub running : RunsFor n s
  pub ends : end_in (state_after n s) ≡ Some end

-- The run of an image from reset, on a machine of a shape: the state before cycle t, and what the cycles below t did.

abbrev pub state_at : LoadedImage → Shape → ℕ → State
state_at image shape t = state_after t (reset image shape)

abbrev pub output_below : LoadedImage → Shape → ℕ → List ℕ
output_below image shape t = output_after t (reset image shape)

abbrev pub events_below : LoadedImage → Shape → ℕ → List CacheEvent
events_below image shape t = events_after t (reset image shape)

abbrev pub issues_below : LoadedImage → Shape → ℕ → List ℕ
issues_below image shape t = issues_after t (reset image shape)

abbrev pub clocks_below : LoadedImage → Shape → ℕ → List ℕ
clocks_below image shape t = clocks_after t (reset image shape)

abbrev pub retired_below : LoadedImage → Shape → ℕ → ℕ
retired_below image shape t = retired_after t (reset image shape)

abbrev pub IsRunning : LoadedImage → Shape → ℕ → Type 0
IsRunning image shape t = RunsFor t (reset image shape)
