use Rattle.std.proofs.Common.{◌≡◌, ◌-◌, ◌*◌, refl, subst}
use Rattle.due_parity.specs.Stretches.{AreGroupDetected, width}
use Rattle.due_parity.proofs.Groups.{group-detected, group-undetected}
use Rattle.due_parity.proofs.counting.stretch.Goals as goal

pub returns-then-detected : goal.returns-then-detected
returns-then-detected c =
    let whole : c.from.result * c.from-2.result ≡ width c.args.s * (c.args.until - c.args.from) =
    rw (c.from.ensures, c.width.ensures, c.from-2.ensures) refl in
    group-detected c.args.a.now c.args.s c.args.group c.args.from c.args.until c.ace_pairs-ace.result (c.from.result * c.from-2.result)
    c.requires.order whole
    (subst (AreGroupDetected c.args.a.now c.args.s c.args.group c.args.from c.args.until) c.if-detected.true c.requires.fates)
    c.ace_pairs-ace.ensures.count

pub returns-else-detected : goal.returns-else-detected
returns-else-detected c =
    let whole : c.from.result * c.from-2.result ≡ width c.args.s * (c.args.until - c.args.from) =
    rw (c.from.ensures, c.width.ensures, c.from-2.ensures) refl in
    group-undetected c.args.a.now c.args.s c.args.group c.args.from c.args.until (c.from.result * c.from-2.result)
    c.requires.order whole
    (subst (AreGroupDetected c.args.a.now c.args.s c.args.group c.args.from c.args.until) c.if-detected.false c.requires.fates)
