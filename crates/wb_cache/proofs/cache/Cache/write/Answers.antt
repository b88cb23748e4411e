use Rattle.std.proofs.Common.{ℕ, ap, ◌∙◌}
use Rattle.wb_cache.specs.Access.{put}
use Rattle.wb_cache.proofs.Bytewise.{put-lanes}
use Rattle.wb_cache.proofs.cache.Cache.write.Goals as goal

pub returns-clause-bytes : goal.returns-clause-bytes
returns-clause-bytes c =
    put-lanes c.args.line c.args.word c.args.mask c.args.value c.in_ok-way.way c.args.self.now _ c.is_cache.ensures.sized c.requires.word
    c.in_ok-way.ensures.way
    (c.put.ensures ∙ ap (λ (set : ℕ). put set c.in_ok-way.way c.args.word c.args.mask c.args.value c.args.self.now) c.set_of.ensures.value)
