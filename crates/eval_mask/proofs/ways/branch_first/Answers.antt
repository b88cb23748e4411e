use Rattle.eval_mask.proofs.WayBits.{first_way_bits}
use Rattle.eval_mask.proofs.ways.branch_first.Goals as goal

pub returns : goal.returns
returns c =
    first_way_bits c.args.needs.now c.args.arch.now c.args.w.now c.args.m.now c.args.d.now c.args.case.now c.args.kind
    c.is_turned_alike-turned.result c.first_ways.result c.requires.case c.requires.on_path c.requires.reached c.requires.unread c.requires.operation
    c.requires.held c.is_turned_alike-turned.ensures c.first_ways.ensures
