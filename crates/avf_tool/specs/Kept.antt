-- A text that is put together in memory.
use Rattle.std.specs.Prelude.{ℕ, List}

-- what a sink of it kept, and how many of its writes failed
pub record KeptText : Type 0 where
  pub kept : List ℕ
  pub faults : ℕ
