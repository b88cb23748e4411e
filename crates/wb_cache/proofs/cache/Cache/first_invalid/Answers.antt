use Rattle.std.proofs.Common.{◌≡◌, true, not, ◌<◌, arith, sym}
use Rattle.wb_cache.specs.Contents.{slots}
use Rattle.wb_cache.specs.Replacement.{first_invalid}
use Rattle.wb_cache.proofs.Find.{first_below-found}
use Rattle.wb_cache.proofs.cache.Cache.first_invalid.Goals as goal

pub returns-then-not-valid-clause-way : goal.returns-then-not-valid-clause-way
unfolding first_invalid
returns-then-not-valid-clause-way c =
    let within : c.loop-way.way < c.args.self.now.shape.ways = omega arith in
    let invalid : not (slots c.args.self.now c.args.set c.loop-way.way).valid ≡ true = cc in
    sym (first_below-found _ _ (λ w. not (slots c.args.self.now c.args.set w).valid) within c.loop-way.invariant invalid)
