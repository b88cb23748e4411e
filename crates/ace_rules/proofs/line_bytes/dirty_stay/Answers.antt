use Rattle.std.proofs.Common.{arith}
use Rattle.ace_rules.proofs.ByteStays.{dirty-sooner}
use Rattle.ace_rules.proofs.line_bytes.dirty_stay.Goals as goal

pub returns-clause-stays : goal.returns-clause-stays
returns-clause-stays c = λ j l.
    dirty-sooner c.args.needs.now c.args.notes.now c.args.note.now c.args.quiet c.args.byte j c.args.cycle c.dirty_until.result c.min.result
    (omega (arith, c.min.ensures)) (c.dirty_until.ensures j l)
