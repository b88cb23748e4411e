use Rattle.std.proofs.Common.{◌+◌, arith, ◌==◌}
use Rattle.bit_field.proofs.Located.{is_located}
use Rattle.bit_field.specs.declared.places.Structure.TheVariants.{IdEx}
use Rattle.pipe_latch.specs.DecodedBits as idex
use Rattle.ace_class.specs.Classes.{class_number}
use Rattle.ace_rules.specs.RuleMasks.{first_of}
use Rattle.ace_rules.specs.Tallies.{HasClass}
use Rattle.ace_rules.proofs.DecodedClasses.{decoded_class}
use Rattle.ace_rules.proofs.FirstMasks.{added-firsts}
use Rattle.ace_rules.proofs.Tallies.{added-behind, count-le}
use Rattle.ace_rules.proofs.tally_decoded.add_decoded.Goals as goal

pub add_firsts-requires-2-clause-room : goal.add_firsts-requires-2-clause-room
add_firsts-requires-2-clause-room c = λ n.
    let counts = c.add_firsts.ensures.counts n in
    let most = count-le 128 (λ k. class_number (first_of c.low_masks.result k) == n) in
    let room = c.requires n in
    omega (arith, counts, most, room)

pub returns : goal.returns
returns c = λ a needs known.
    added-behind (HasClass a IdEx) 128 25 c.args.row.now c.add_firsts.new.row c.add_firsts-2.new.row
    (added-firsts (HasClass a IdEx) c.low_masks.result 128 c.args.row.now c.add_firsts.new.row c.add_firsts.ensures.full c.add_firsts.ensures.counts
    (λ k l.
    let (place, at) = is_located idex.width idex.layout.fields k (omega (arith, l)) in
    rw (c.low_masks.ensures k place l at) (decoded_class a needs c.args.note.now c.args.quiet known k place at (omega (arith, l)))))
    (added-firsts (λ k. HasClass a IdEx (128 + k)) c.high_masks.result 25 c.add_firsts.new.row c.add_firsts-2.new.row c.add_firsts-2.ensures.full
    c.add_firsts-2.ensures.counts
    (λ k l.
    let (place, at) = is_located idex.width idex.layout.fields (128 + k) (omega (arith, l)) in
    rw (c.high_masks.ensures k place l at) (decoded_class a needs c.args.note.now c.args.quiet known (128 + k) place at (omega (arith, l)))))
