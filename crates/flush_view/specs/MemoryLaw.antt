-- The memory law: what a cycle does to the view, for every state and every set X of lines.
use Rattle.std.specs.Prelude.{◌≡◌, ℕ, ◌/◌, Bool, true, false}
use Rattle.rv_isa.specs.Instruction.{given, memory_after}
use Rattle.cyc_machine.specs.Cycle.{action_in_m, done_in, served_m}
use Rattle.cyc_machine.specs.State.{State}
use Rattle.flush_view.specs.Coherence.{IsCoherent}
use Rattle.flush_view.specs.Views.{view}

-- `next` is the state after one cycle from s.
pub record MemoryLaw (s next : State) : Type 0 where
  -- the cache stays coherent outside X
  pub coherent : (out : ℕ → Bool) → IsCoherent out s → IsCoherent out next
  -- the view of a byte of a line that isn't in X changes only by a store that is done in this cycle
  pub seen : (out : ℕ → Bool) → IsCoherent out s → (p : ℕ) → out (p / 16) ≡ false → view next p ≡ memory_after s.image (done_in s) (view s) p
  -- what is done in this cycle gives its register the value that the view gives it: a done load reads the view's bytes
  pub value : (served_m s).goes ≡ true → (served_m s).value ≡ given s.image (action_in_m s) (view s)
