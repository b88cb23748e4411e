-- Steps that may fail, one after the other: what follows the first that fails is left out.
use Rattle.std.specs.Prelude.{Option, option_and_then}

infixl 10 ◌>>=◌
abbrev pub ◌>>=◌ : {A B : Type 0} → Option A → (A → Option B) → Option B
step >>= next = option_and_then next step
