-- A text on its way to a sink, where the end of it is held.
use Rattle.std.specs.Prelude.{◌≡◌, ℕ, List, ◌++◌, Option}
use Rattle.avf_base.specs.Moves.{Grows}

-- what was taken grew by all of a text but the end of it, which is held
pub record GrowsButFor (old new : Option (List ℕ)) (held text : List ℕ) : Type 0 where
  pub front : List ℕ
  pub cut : text ≡ front ++ held
  pub grows : Grows old new front
