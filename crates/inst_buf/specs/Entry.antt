-- What a slot of the instruction buffer holds.
use Rattle.std.specs.Prelude.{ℕ, Bool, false}

-- a fetched instruction
pub record Entry : Type 0 where
  pub valid : Bool  -- whether there is one
  pub fault : Bool  -- whether its fetch failed
  pub pc : ℕ  -- its word address
  pub word : ℕ  -- its word

-- an empty slot is all zero
abbrev pub no_entry : Entry
no_entry = record { valid = false; fault = false; pc = 0; word = 0 }
