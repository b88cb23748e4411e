use Rattle.std.proofs.Common.{ℕ, ◌+◌, ◌*◌, subst, arith}
use Rattle.bit_field.specs.declared.places.Structure.TheVariants.{Sb}
use Rattle.ace_rules.specs.Tallies.{HasClass, IsAdded}
use Rattle.ace_rules.proofs.Tallies.{added-behind, added-most, added-start}
use Rattle.ace_rules.proofs.tally_pending.add_pending.Goals as goal

pub loop-slot-init : goal.loop-slot-init
loop-slot-init c = record { added = λ a known same. added-start (HasClass a Sb) c.args.row.now }

pub add_target-requires-clause-some : goal.add_target-requires-clause-some
add_target-requires-clause-some c = record { a = c.requires.some.a; known = c.requires.some.known }

pub add_value-requires-clause-some : goal.add_value-requires-clause-some
add_value-requires-clause-some c = record { a = c.requires.some.a; known = c.requires.some.known }

pub add_target-requires-clause-room : goal.add_target-requires-clause-room
add_target-requires-clause-room c = λ n.
    let some = c.requires.some in
    let most = added-most (HasClass some.a Sb) (66 * c.loop-slot.slot) c.args.row.now c.loop-slot.row (c.loop-slot.invariant.added some.a some.known some.same) n in
    let room = c.requires.room n in
    omega (arith, most, room)

pub add_value-requires-clause-room : goal.add_value-requires-clause-room
add_value-requires-clause-room c = λ n.
    let some = c.requires.some in
    let slot = c.loop-slot.slot in
    let most = added-most (HasClass some.a Sb) (66 * slot) c.args.row.now c.loop-slot.row (c.loop-slot.invariant.added some.a some.known some.same) n in
    let more = added-most (λ k. HasClass some.a Sb (66 * slot + k)) 34 c.loop-slot.row c.add_target.new.row (c.add_target.ensures some.a some.known some.same) n in
    let room = c.requires.room n in
    omega (arith, most, more, room)

pub loop-slot-preserved : goal.loop-slot-preserved
loop-slot-preserved c = record {
  added = λ a known same.
      let slot = c.loop-slot.slot in
      subst (λ (n : ℕ). IsAdded (HasClass a Sb) n c.args.row.now c.add_value.new.row) (omega arith)
      (added-behind (HasClass a Sb) (66 * slot) (34 + 32) c.args.row.now c.loop-slot.row c.add_value.new.row (c.loop-slot.invariant.added a known same)
      (added-behind (λ k. HasClass a Sb (66 * slot + k)) 34 32 c.loop-slot.row c.add_target.new.row c.add_value.new.row
      (c.add_target.ensures a known same) (c.add_value.ensures a known)));
}

pub returns : goal.returns
returns c = λ a known same.
    subst (λ (n : ℕ). IsAdded (HasClass a Sb) n c.args.row.now c.loop-slot.row) (omega arith) (c.loop-slot.invariant.added a known same)
