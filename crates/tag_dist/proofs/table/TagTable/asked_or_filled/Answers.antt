use Rattle.tag_dist.proofs.table.TagTable.asked_or_filled.Goals as goal

pub first_asked-asked-requires : goal.first_asked-asked-requires
first_asked-asked-requires c = c.self.invariant.rises c.args.line
