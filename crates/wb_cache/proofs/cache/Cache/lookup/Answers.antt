use Rattle.std.proofs.Common.{◌≡◌, true, ◌<◌, arith, sym}
use Rattle.wb_cache.specs.Contents.{slots}
use Rattle.wb_cache.specs.Lookup.{holds, set_of, tag_of, way_of}
use Rattle.wb_cache.proofs.Find.{first_below-found}
use Rattle.wb_cache.proofs.Holds.{holds-from}
use Rattle.wb_cache.proofs.cache.Cache.lookup.Goals as goal

pub returns-then-tag-clause-way : goal.returns-then-tag-clause-way
unfolding way_of
returns-then-tag-clause-way c =
    let within : c.loop-way.way < c.args.self.now.shape.ways = omega arith in
    let valid : (slots c.args.self.now (set_of c.args.self.now.shape c.args.line) c.loop-way.way).valid ≡ true = cc in
    let tag : (slots c.args.self.now (set_of c.args.self.now.shape c.args.line) c.loop-way.way).tag ≡ tag_of c.args.self.now.shape c.args.line = cc in
    sym (first_below-found _ _ (λ w. holds c.args.self.now.shape c.args.line (slots c.args.self.now (set_of c.args.self.now.shape c.args.line) w)) within
    c.loop-way.invariant (holds-from c.args.self.now.shape c.args.line
    (slots c.args.self.now (set_of c.args.self.now.shape c.args.line) c.loop-way.way) valid tag))
