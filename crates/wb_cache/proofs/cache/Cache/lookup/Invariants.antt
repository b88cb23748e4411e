use Rattle.std.proofs.Common.{◌≡◌}
use Rattle.std.specs.Prelude.{None}
use Rattle.wb_cache.specs.Contents.{slots}
use Rattle.wb_cache.specs.Lookup.{first_below, holds, set_of}
use Rattle.wb_cache.proofs.cache.Cache.lookup.Given as goal

abbrev pub invariant-loop-way : goal.invariant-loop-way
invariant-loop-way l = first_below l.way (λ w. holds l.self.shape l.line (slots l.self (set_of l.self.shape l.line) w)) ≡ None
