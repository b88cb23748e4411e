use Rattle.ace_rules.proofs.ByteBits.{unread-beside, unread-ends, unread-evicted, unread-overwritten, unread-read}
use Rattle.ace_rules.proofs.line_bytes.unread_bits.Goals as goal

pub returns-in-Read : goal.returns-in-Read
returns-in-Read c = λ j l.
    unread-read c.args.needs.now c.args.notes.now c.args.quiet c.args.slots.now c.args.slot c.args.offset j c.args.next c.in-Read.field-0 c.in-Read.is

pub returns-in-Overwritten : goal.returns-in-Overwritten
returns-in-Overwritten c = λ j l.
    unread-overwritten c.args.needs.now c.args.notes.now c.args.quiet c.args.slots.now c.args.slot c.args.offset j c.args.next
    c.in-Overwritten.field-0 c.in-Overwritten.is l

pub returns-in-Beside : goal.returns-in-Beside
returns-in-Beside c = λ j l.
    unread-beside c.args.needs.now c.args.notes.now c.args.quiet c.args.slots.now c.args.slot c.args.offset j c.args.next c.in-Beside.cycle
    c.dead_bits_in.result c.in-Beside.is (c.dead_bits_in.ensures j l)

pub returns-in-Evicted : goal.returns-in-Evicted
returns-in-Evicted c = λ j l.
    unread-evicted c.args.needs.now c.args.notes.now c.args.quiet c.args.slots.now c.args.slot c.args.offset j c.args.next c.in-Evicted.field-0
    c.in-Evicted.is l

pub returns-in-Ends : goal.returns-in-Ends
returns-in-Ends c = λ j l.
    unread-ends c.args.needs.now c.args.notes.now c.args.quiet c.args.slots.now c.args.slot c.args.offset j c.args.next c.in-Ends.is l
