use Rattle.std.proofs.Common.{ℕ, ◌+◌, ◌-◌, ◌*◌, subst, arith}
use Rattle.bit_field.specs.declared.places.Structure.TheVariants.{Rf}
use Rattle.ace_rules.specs.Tallies.{HasClass, IsAdded}
use Rattle.ace_rules.proofs.FirstMasks.{added-firsts}
use Rattle.ace_rules.proofs.RegisterClasses.{decoded_counted, register_class}
use Rattle.ace_rules.proofs.Tallies.{added-behind, added-most, added-start}
use Rattle.ace_rules.proofs.tally_registers.add_registers.Goals as goal

pub loop-r-init : goal.loop-r-init
loop-r-init c = record { added = λ a known. added-start (HasClass a Rf) c.args.row.now }

pub register_masks-requires-clause-instruction : goal.register_masks-requires-clause-instruction
register_masks-requires-clause-instruction c = decoded_counted c.args.needs.now c.args.note.now c.args.quiet c.requires.some

pub add_firsts-requires-clause-room : goal.add_firsts-requires-clause-room
add_firsts-requires-clause-room c = λ n.
    let some = c.requires.some in
    let most = added-most (HasClass some.a Rf) (32 * (c.loop-r.r - 1)) c.args.row.now c.loop-r.row (c.loop-r.invariant.added some.a some.known) n in
    let room = c.requires.room n in
    omega (arith, most, room)

pub loop-r-preserved : goal.loop-r-preserved
loop-r-preserved c = record {
  added = λ a known.
      let front = 32 * (c.loop-r.r - 1) in
      subst (λ (n : ℕ). IsAdded (HasClass a Rf) n c.args.row.now c.add_firsts.new.row) (omega arith)
      (added-behind (HasClass a Rf) front 32 c.args.row.now c.loop-r.row c.add_firsts.new.row (c.loop-r.invariant.added a known)
      (added-firsts (λ k. HasClass a Rf (front + k)) c.register_masks.result 32 c.loop-r.row c.add_firsts.new.row c.add_firsts.ensures.full
      c.add_firsts.ensures.counts
      (λ k l.
      rw (c.register_masks.ensures k l)
      (register_class c.args.needs.now c.args.note.now c.args.quiet (front + k) (omega (arith, l)) a known))));
}

pub returns : goal.returns
returns c = λ a known.
    subst (λ (n : ℕ). IsAdded (HasClass a Rf) n c.args.row.now c.loop-r.row) (omega arith) (c.loop-r.invariant.added a known)
