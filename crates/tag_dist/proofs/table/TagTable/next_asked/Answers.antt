use Rattle.std.proofs.Common.{ℕ, Option, subst}
use Rattle.wb_cache.specs.Contents.{slot_of}
use Rattle.tag_dist.proofs.Asked.{asked-same}
use Rattle.tag_dist.specs.Tables.{IsBy}
use Rattle.tag_dist.proofs.table.TagTable.next_asked.Goals as goal

pub returns-clause-same : goal.returns-clause-same
returns-clause-same c = λ u later h.
    asked-same c.args.self.now (slot_of c.args.self.now.shape c.args.set c.args.way) c.args.line c.args.t u later
    (subst (λ (o : Option ℕ). IsBy u o) c.asked_or_filled.ensures h)
