-- What the instructions of a run do with lines. A line is a byte address divided by 16.
use Rattle.std.specs.Prelude.{ℕ, zero, suc, ◌==◌, Bool, false, List, Option, Some, None, length, slice_get, if◌then◌else◌}
use Rattle.std.specs.Option.{option_map_or}
use Rattle.rv_isa.specs.Accesses.{recorded_line}
use Rattle.rv_isa.specs.declared.effect.Retired.{Retired}

-- whether an instruction loads from or stores to a line; one that traps does neither
abbrev pub accesses : ℕ → Retired → Bool
accesses line entry = option_map_or (λ accessed. accessed == line) (recorded_line entry.effect) false

-- the greatest number below n that passes a test
unfoldable pub last_below : ℕ → (ℕ → Bool) → Option ℕ
last_below zero test = None
last_below (suc n) test = if test n then Some n else last_below n test

-- the last instruction of a run that accesses a line
abbrev pub last_access : ℕ → List Retired → Option ℕ
last_access line entries = last_below (length entries) (λ i. option_map_or (accesses line) (slice_get entries i) false)
