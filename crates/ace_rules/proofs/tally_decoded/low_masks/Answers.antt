use Rattle.std.specs.Prelude.{bit_or}
use Rattle.ace_rules.proofs.DecodedMarks.{decoded-low, others-set, place-set}
use Rattle.ace_rules.proofs.tally_decoded.low_masks.Goals as goal

pub returns : goal.returns
returns c = λ k place l at.
    decoded-low c.args.note.now k place l at c.args.quiet c.when-empty.result c.when-3.result c.when-off_path.result c.when.result
    c.without-others.result c.when-4.result c.when-masked.result (bit_or c.when-on_path.result c.when-idle.result) c.when-empty.ensures
    c.when-3.ensures c.when-off_path.ensures c.when.ensures
    (rw c.without-others.ensures (others-set c.args.note.now k place l at c.next_bits.result (c.next_bits.ensures k))) c.when-4.ensures
    (place-set c.args.note.now k place l at c.when-on_path.result c.when-idle.result c.when-2.result c.when-on_path.ensures c.when-idle.ensures
    c.when-2.ensures)
    c.when-masked.ensures
