use Rattle.std.proofs.Common.{ℕ, ap, ◌∙◌, subst, arith}
use Rattle.bit_field.specs.Shapes.{bits_in}
use Rattle.ace_rules.specs.Notes.{Story, moment}
use Rattle.ace_rules.specs.Tallies.{HasClass, IsAdded}
use Rattle.ace_rules.proofs.Tallies.{added-behind, added-start}
use Rattle.ace_rules.proofs.analysis.Analysis.add_bits.Goals as goal

pub add_stretch-requires-clause-bits : goal.add_stretch-requires-clause-bits
add_stretch-requires-clause-bits c =
    let bits = c.bits_in.ensures ∙ ap (bits_in c.args.structure) (c.shape-shape.ensures ∙ ap (λ (x : Story). x.r.shape) c.self.view_is) in
    omega (arith, bits)

pub add_stretch-requires-clause-room : goal.add_stretch-requires-clause-room
add_stretch-requires-clause-room c = λ n.
    let bits = c.bits_in.ensures ∙ ap (bits_in c.args.structure) (c.shape-shape.ensures ∙ ap (λ (x : Story). x.r.shape) c.self.view_is) in
    let room = c.requires.room n in
    omega (arith, bits, room)

pub returns : goal.returns
returns c =
    let bits = c.bits_in.ensures ∙ ap (bits_in c.args.structure) (c.shape-shape.ensures ∙ ap (λ (x : Story). x.r.shape) c.self.view_is) in
    subst (λ (n : ℕ). IsAdded (HasClass (moment c.args.self.now c.args.cycle) c.args.structure) n c.args.row.now c.add_stretch.new.row)
    (omega (arith, bits))
    (added-behind (HasClass (moment c.args.self.now c.args.cycle) c.args.structure) 0 c.bits_in.result c.args.row.now c.args.row.now
    c.add_stretch.new.row (added-start (HasClass (moment c.args.self.now c.args.cycle) c.args.structure) c.args.row.now) c.add_stretch.ensures)
