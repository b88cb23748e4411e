-- What a slot of the store buffer holds: a store to one word that hasn't reached the cache.
use Rattle.std.specs.Prelude.{ℕ}

pub record Entry : Type 0 where
  pub mask : ℕ  -- bit l says that the store writes byte lane l; a slot with no bit set is free
  pub addr : ℕ  -- word address
  pub value : ℕ  -- the word, lane 0 its lowest byte

-- a free slot, all of whose bits are 0
abbrev pub no_entry : Entry
no_entry = record { mask = 0; addr = 0; value = 0 }
