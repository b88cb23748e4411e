use Rattle.std.proofs.Common.{◌*◌, ◌^◌, refl, ◌∙◌, arith}
use Rattle.std.proofs.lemmas.Nat.{mul-le}
use Rattle.ace_rules.proofs.ByteRows.{first-room, left-few, second-room, times-row}
use Rattle.ace_rules.proofs.FirstMasks.{rule-most}
use Rattle.ace_rules.proofs.tally_bytes.add_times.Goals as goal

pub overflow_add-row : goal.overflow_add-row
overflow_add-row c =
    let i = c.from-3.result in
    let at = c.from-3.ensures ∙ c.number.ensures in
    let most = rule-most i c.args.found.rule at in
    let l =
    first-room c.args.found.rule c.args.found.mask c.args.times c.args.row.now i (c.from.result * c.from-2.result) _ at
    (omega (arith, most, c.well_formed)) (rw (c.from.ensures, c.from-2.ensures) refl) refl in
    let room = c.requires i in
    omega (arith, l, room)

pub overflow_mul-row-2 : goal.overflow_mul-row-2
overflow_mul-row-2 c =
    let few = left-few c.args.found.mask in
    let p = mul-le c.from-4.result c.from-5.result (2 ^ 32) 8 (omega (arith, c.from-4.ensures, c.ranges.times.fits)) (omega (arith, few, c.from-5.ensures)) in
    omega (arith, p)

pub overflow_add-row-2 : goal.overflow_add-row-2
overflow_add-row-2 c =
    let i = c.from-3.result in
    let at = c.from-3.ensures ∙ c.number.ensures in
    let most = rule-most i c.args.found.rule at in
    let l =
    second-room c.args.found.rule c.args.found.mask c.args.times c.args.row.now i (c.from.result * c.from-2.result) (c.from-4.result * c.from-5.result) at
    (omega (arith, most, c.well_formed)) (rw (c.from.ensures, c.from-2.ensures) refl) (rw (c.from-4.ensures, c.from-5.ensures) refl) in
    let room = c.requires 0 in
    omega (arith, l, room)

pub returns-clause-counts : goal.returns-clause-counts
returns-clause-counts c =
    let i = c.from-3.result in
    let at = c.from-3.ensures ∙ c.number.ensures in
    let most = rule-most i c.args.found.rule at in
    times-row c.args.found.rule c.args.found.mask c.args.times c.args.row.now i (c.from.result * c.from-2.result) (c.from-4.result * c.from-5.result) at
    (omega (arith, most, c.well_formed)) (rw (c.from.ensures, c.from-2.ensures) refl) (rw (c.from-4.ensures, c.from-5.ensures) refl)
