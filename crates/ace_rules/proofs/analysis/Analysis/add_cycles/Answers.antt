use Rattle.std.proofs.Common.{◌≡◌, ◌≤◌, ◌+◌, ◌-◌, ◌*◌, refl, arith}
use Rattle.std.specs.Prelude.{replicate, slice_index}
use Rattle.std.proofs.Math.Nat.{mul_comm, mul-le-mul_left}
use Rattle.std.proofs.lemmas.Nat.{mul-le}
use Rattle.bit_field.specs.Shapes.{bits_in}
use Rattle.ace_class.specs.declared.class.TheConstants.{CLASSES}
use Rattle.ace_rules.specs.Notes.{moment}
use Rattle.ace_rules.specs.Tallies.{HasClass}
use Rattle.ace_rules.proofs.Pairs.{pairs-each}
use Rattle.ace_rules.proofs.Tallies.{added-most, zeros}
use Rattle.ace_rules.proofs.analysis.Analysis.add_cycles.Goals as goal

pub add_here-until-requires-clause-room : goal.add_here-until-requires-clause-room
add_here-until-requires-clause-room c = λ n.
    let bits = bits_in c.args.structure c.args.self.now.r.shape in
    let left = c.args.self.now.r.cycles - c.args.cycle in
    let z : slice_index (replicate CLASSES 0) n ≡ 0 = zeros CLASSES n in
    let room = c.requires.room n in
    let below = c.requires.cycle in
    let one : bits * 1 ≤ bits * left = mul-le-mul_left bits (omega (arith, below)) in
    omega (arith, z, room, one)

pub add_row-requires : goal.add_row-requires
add_row-requires c = λ n.
    let bits = bits_in c.args.structure c.args.self.now.r.shape in
    let left = c.args.self.now.r.cycles - c.args.cycle in
    let times = c.add_here-until.result - c.args.cycle in
    let after = c.add_here-until.ensures.after in
    let within = c.add_here-until.ensures.within in
    let z : slice_index (replicate CLASSES 0) n ≡ 0 = zeros CLASSES n in
    let most = added-most (HasClass (moment c.args.self.now c.args.cycle) c.args.structure) bits (replicate CLASSES 0) c.add_here-until.new.row
    (c.add_here-until.ensures.added c.args.cycle (omega arith) after) n in
    let p : times * slice_index c.add_here-until.new.row n ≤ left * bits =
    mul-le times (slice_index c.add_here-until.new.row n) left bits (omega (arith, within)) (omega (arith, most, z)) in
    let s = mul_comm left bits in
    let room = c.requires.room n in
    omega (arith, p, s, room)

pub returns-clause-added : goal.returns-clause-added
returns-clause-added c =
    let times = c.add_here-until.result - c.args.cycle in
    let after = c.add_here-until.ensures.after in
    pairs-each (λ k t. HasClass (moment c.args.self.now (c.args.cycle + t)) c.args.structure k) (bits_in c.args.structure c.args.self.now.r.shape)
    (replicate CLASSES 0) c.add_here-until.new.row refl (zeros CLASSES) times c.args.row.now c.add_row.new.row
    (λ t l. c.add_here-until.ensures.added (c.args.cycle + t) (omega arith) (omega (arith, l)))
    (c.add_here-until.ensures.added c.args.cycle (omega arith) after).full c.add_row.ensures.full c.add_row.ensures.counts
