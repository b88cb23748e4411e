use Rattle.std.proofs.Common.{◌≡◌, ◌≤◌, ℕ, arith, subst}
use Rattle.due_parity.specs.Stretches.{HasAcePairs}
use Rattle.due_parity.proofs.Groups.{more-ace-pairs, no-ace-pairs, pairs-few, pairs-most}
use Rattle.due_parity.proofs.counting.ace_pairs.Goals as goal

pub loop-t-init : goal.loop-t-init
loop-t-init c = (no-ace-pairs c.args.a.now c.args.s c.args.group c.args.from, omega arith, c.requires.order)

pub loop-t-smaller : goal.loop-t-smaller
loop-t-smaller c =
    let after = c.aces_of-aces.ensures.after in
    let next = c.min-next.ensures in
    let below = c.loop-t-test.true in
    omega (arith, after, next, below)

pub overflow_add-pairs : goal.overflow_add-pairs
overflow_add-pairs c =
    let after = c.aces_of-aces.ensures.after in
    let next = c.min-next.ensures in
    let below = c.loop-t-test.true in
    let ahead : c.loop-t.t ≤ c.min-next.result = omega (arith, after, next, below) in
    let least : c.min-next.result ≤ c.aces_of-aces.result.until = omega (arith, next) in
    let has = more-ace-pairs c.args.a.now c.args.s c.args.group c.args.from c.loop-t.t c.min-next.result c.loop-t.pairs c.aces_of-aces.result
    c.loop-t.invariant.1 ahead least c.aces_of-aces.ensures.aces c.loop-t.invariant.0 in
    let few = pairs-few c.args.a.now c.args.s c.args.group c.args.from c.min-next.result _ has in
    rw (c.from.ensures, c.from-in-loop-t.ensures) (omega (arith, few, c.min-next.type_inv))

pub loop-t-preserved : goal.loop-t-preserved
loop-t-preserved c =
    let after = c.aces_of-aces.ensures.after in
    let next = c.min-next.ensures in
    let below = c.loop-t-test.true in
    let ahead : c.loop-t.t ≤ c.min-next.result = omega (arith, after, next, below) in
    let least : c.min-next.result ≤ c.aces_of-aces.result.until = omega (arith, next) in
    let has = more-ace-pairs c.args.a.now c.args.s c.args.group c.args.from c.loop-t.t c.min-next.result c.loop-t.pairs c.aces_of-aces.result
    c.loop-t.invariant.1 ahead least c.aces_of-aces.ensures.aces c.loop-t.invariant.0 in (
      rw (c.from.ensures, c.from-in-loop-t.ensures) has,
      omega (arith, c.loop-t.invariant.1, ahead),
      omega (arith, next),
    )

pub returns-clause-most : goal.returns-clause-most
returns-clause-most c =
    let at : c.loop-t.t ≡ c.args.until = omega (arith, c.loop-t-test.false, c.loop-t.invariant.2) in
    pairs-most c.args.a.now c.args.s c.args.group c.args.from c.args.until c.loop-t.pairs
    (subst (λ (n : ℕ). HasAcePairs c.args.a.now c.args.s c.args.group c.args.from n c.loop-t.pairs) at c.loop-t.invariant.0)
