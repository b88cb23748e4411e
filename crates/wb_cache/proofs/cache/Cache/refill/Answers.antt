use Rattle.wb_cache.proofs.Bytewise.{came-line}
use Rattle.wb_cache.proofs.cache.Cache.refill.Goals as goal

pub returns-clause-bytes : goal.returns-clause-bytes
returns-clause-bytes c =
    came-line c.args.image.now c.args.line c.args.memory.now c.args.self.now c.is_image.ensures c.requires.memory c.is_cache.ensures.sized c.requires.miss
    _ _ c.set_of-set.result c.victim-way.result c.set_of-set.ensures.value c.victim-way.ensures.way c.write_back.ensures c.fill.ensures
