use Rattle.std.proofs.Common.{◌≡◌, not}
use Rattle.std.specs.Prelude.{None}
use Rattle.wb_cache.specs.Contents.{slots}
use Rattle.wb_cache.specs.Lookup.{first_below}
use Rattle.wb_cache.proofs.cache.Cache.first_invalid.Given as goal

abbrev pub invariant-loop-way : goal.invariant-loop-way
invariant-loop-way l = first_below l.way (λ w. not (slots l.self l.set w).valid) ≡ None
