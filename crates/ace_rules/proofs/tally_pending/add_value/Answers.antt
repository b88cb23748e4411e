use Rattle.std.proofs.Common.{ℕ, ◌+◌, ◌*◌, subst, arith}
use Rattle.bit_field.specs.declared.places.Structure.TheVariants.{Sb}
use Rattle.ace_rules.specs.Tallies.{HasClass, IsAdded}
use Rattle.ace_rules.proofs.FirstMasks.{added-firsts}
use Rattle.ace_rules.proofs.PendingMarks.{value-class}
use Rattle.ace_rules.proofs.Tallies.{added-behind, added-most, added-start}
use Rattle.ace_rules.proofs.Unneeded.{retired_counted}
use Rattle.ace_rules.proofs.tally_pending.add_value.Goals as goal

pub loop-lane-init : goal.loop-lane-init
loop-lane-init c = record { added = λ a known. added-start (λ k. HasClass a Sb (66 * c.args.slot + (34 + k))) c.args.row.now }

pub byte_masks-requires-clause-instruction : goal.byte_masks-requires-clause-instruction
byte_masks-requires-clause-instruction c = retired_counted c.args.needs.now c.args.note.now c.args.quiet c.requires.some

pub add_firsts-requires-clause-room : goal.add_firsts-requires-clause-room
add_firsts-requires-clause-room c = λ n.
    let some = c.requires.some in
    let most = added-most (λ k. HasClass some.a Sb (66 * c.args.slot + (34 + k))) (8 * c.loop-lane.lane) c.args.row.now c.loop-lane.row
    (c.loop-lane.invariant.added some.a some.known) n in
    let room = c.requires.room n in
    omega (arith, most, room)

pub loop-lane-preserved : goal.loop-lane-preserved
loop-lane-preserved c = record {
  added = λ a known.
      let slot = c.args.slot in
      let front = 8 * c.loop-lane.lane in
      subst (λ (n : ℕ). IsAdded (λ k. HasClass a Sb (66 * slot + (34 + k))) n c.args.row.now c.add_firsts.new.row) (omega arith)
      (added-behind (λ k. HasClass a Sb (66 * slot + (34 + k))) front 8 c.args.row.now c.loop-lane.row c.add_firsts.new.row
      (c.loop-lane.invariant.added a known)
      (added-firsts (λ k. HasClass a Sb (66 * slot + (34 + (front + k)))) c.byte_masks.result 8 c.loop-lane.row c.add_firsts.new.row
      c.add_firsts.ensures.full c.add_firsts.ensures.counts
      (λ k l.
      rw (c.byte_masks.ensures a.r.image (34 + (front + k)) k l)
      (value-class a c.args.needs.now c.args.note.now c.args.quiet known slot (front + k) c.requires.slot (omega (arith, l))))));
}

pub returns : goal.returns
returns c = λ a known.
    subst (λ (n : ℕ). IsAdded (λ k. HasClass a Sb (66 * c.args.slot + (34 + k))) n c.args.row.now c.loop-lane.row) (omega arith)
    (c.loop-lane.invariant.added a known)
