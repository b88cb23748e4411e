use Rattle.std.proofs.Common.{ℕ, ◌+◌, ◌∙◌, arith, subst}
use Rattle.ace_rules.specs.Notes.{moment}
use Rattle.ace_rules.specs.Tallies.{HasClass, IsAdded}
use Rattle.ace_rules.proofs.OneClass.{one_each}
use Rattle.ace_rules.proofs.Tallies.{added-most, added-next, added-start, number-most}
use Rattle.ace_rules.proofs.analysis.Analysis.add_stretch.Goals as goal

pub loop-bit-init : goal.loop-bit-init
loop-bit-init c = added-start (λ k. HasClass (moment c.args.self.now c.args.cycle) c.args.structure (c.args.first + k)) c.args.row.now

pub overflow_add-row : goal.overflow_add-row
overflow_add-row c =
    let i = c.from.result in
    let most =
    added-most (λ k. HasClass (moment c.args.self.now c.args.cycle) c.args.structure (c.args.first + k)) c.loop-bit.bit c.args.row.now c.loop-bit.row
    c.loop-bit.invariant i in
    let room = c.requires.room i in
    omega (arith, most, room)

pub loop-bit-preserved : goal.loop-bit-preserved
loop-bit-preserved c =
    let a = moment c.args.self.now c.args.cycle in
    let full = c.loop-bit.invariant.full in
    let most = number-most c.class_of-class.result in
    added-next (λ k. HasClass a c.args.structure (c.args.first + k)) (λ k. one_each a c.args.structure (c.args.first + k)) c.loop-bit.bit c.args.row.now
    c.loop-bit.row c.loop-bit.invariant c.class_of-class.result c.class_of-class.ensures.class c.from.result (c.from.ensures ∙ c.number.ensures)
    (omega (arith, full, most, c.from.ensures, c.number.ensures))

pub returns : goal.returns
returns c =
    subst (λ (n : ℕ). IsAdded (λ k. HasClass (moment c.args.self.now c.args.cycle) c.args.structure (c.args.first + k)) n c.args.row.now c.loop-bit.row)
    (omega arith) c.loop-bit.invariant
