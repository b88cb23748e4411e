use Rattle.ace_rules.proofs.ByteBits.{dead-clean, dead-dirty, dead-vacant}
use Rattle.ace_rules.proofs.line_bytes.dead_bits_of.Goals as goal

pub returns-in-Vacant : goal.returns-in-Vacant
returns-in-Vacant c = λ j l. dead-vacant c.args.needs.now c.args.note.now c.args.offset j c.args.held c.in-Vacant.is

pub returns-in-Clean : goal.returns-in-Clean
returns-in-Clean c = λ j l. dead-clean c.args.needs.now c.args.note.now c.args.offset j c.args.held c.in-Clean.field-0 c.in-Clean.is

pub returns-in-Dirty : goal.returns-in-Dirty
returns-in-Dirty c = λ j l.
    dead-dirty c.args.needs.now c.args.note.now c.args.offset j c.args.held c.in-Dirty.line c.dead_bits.result c.in-Dirty.is (c.dead_bits.ensures j l)
