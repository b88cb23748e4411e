use Rattle.tag_dist.proofs.Answered.{table-all, tables-all}
use Rattle.tag_dist.proofs.table.tag_table.Goals as goal

pub invariant_of-result : goal.invariant_of-result
invariant_of-result c = tables-all c.args.events.now c.args.trace.now.entries c.args.shape.now c.in_ok-last.last.entries c.in_ok-asked.asked.entries
    c.in_ok-filled.filled.items c.requires.shape c.requires.events
    c.in_ok-filled.ensures.length c.in_ok-asked.ensures c.in_ok-filled.ensures.lists c.in_ok-last.ensures

pub returns : goal.returns
returns c = table-all c.args.events.now c.args.trace.now.entries c.args.shape.now c.in_ok-last.last.entries c.in_ok-asked.asked.entries
    c.in_ok-filled.filled.items c.requires.shape c.requires.events
    c.in_ok-filled.ensures.length c.in_ok-asked.ensures c.in_ok-filled.ensures.lists c.in_ok-last.ensures
