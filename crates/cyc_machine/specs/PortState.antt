-- What the port of the cache holds.
use Rattle.std.specs.Prelude.{ℕ, Bool}

pub record PortState : Type 0 where
  pub count : ℕ  -- how many cycles its client must still wait
  pub owner : Bool  -- whether that is the store client
