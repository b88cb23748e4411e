use Rattle.std.proofs.Common.{sym, ◌∙◌}
use Rattle.rv_isa.specs.Architecture.{state_of}
use Rattle.eval_mask.proofs.Doings.{doing_exactly, doing_never, own_left}
use Rattle.eval_mask.proofs.Fields.{decoded_inside, flip_keeps}
use Rattle.eval_mask.proofs.Masked.{decoded_exactly}
use Rattle.eval_mask.proofs.OwnChange.{own_write}
use Rattle.eval_mask.proofs.decoded.decoded_bit.Goals as goal

pub returns-then-not-case : goal.returns-then-not-case
returns-then-not-case c =
    decoded_exactly c.args.needs.now c.args.arch.now c.args.w.now c.args.m.now c.args.d.now c.args.case.now c.args.k
    c.is_masked.result c.requires.case c.requires.on_path (decoded_inside c.args.k c.requires.from c.requires.to)
    (rw c.flip.ensures at (c.is_masked.ensures (record { w = c.args.w.now; m = c.args.m.now; d = c.args.d.now }) c.requires.case.outcome))

pub returns-then-is_clocked : goal.returns-then-is_clocked
returns-then-is_clocked c =
    let k = c.args.k in
    decoded_exactly c.args.needs.now c.args.arch.now c.args.w.now c.args.m.now c.args.d.now c.args.case.now k
    _ c.requires.case c.requires.on_path (decoded_inside k c.requires.from c.requires.to)
    (doing_never c.args.needs.now c.args.arch.now c.args.w.now c.args.m.now c.args.d.now _ c.args.case.now c.requires.case c.if-not-case.false
    (flip_keeps c.args.d.now k c.requires.from c.requires.to)
    (rw (sym c.flip.ensures) (rw (sym c.instruction.ensures) (sym c.is_clocked.ensures ∙ c.if-is_clocked.true))))

pub is_doing_masked-requires-clause-own : goal.is_doing_masked-requires-clause-own
is_doing_masked-requires-clause-own c =
    own_left c.args.needs.now c.args.arch.now c.args.w.now c.args.m.now c.args.d.now c.args.case.now c.requires.case c.if-not-case.false

pub returns : goal.returns
returns c =
    let needs = c.args.needs.now in
    let arch = c.args.arch.now in
    let w = c.args.w.now in
    let m = c.args.m.now in
    let d = c.args.d.now in
    let case = c.args.case.now in
    let k = c.args.k in
    let doing =
    rw c.image.ensures at
    (c.doing_of-doing.ensures m (state_of arch).memory (rw c.image.ensures (own_write needs arch w m d case c.requires.case))) in
    decoded_exactly needs arch w m d case k c.is_doing_masked.result c.requires.case c.requires.on_path
    (decoded_inside k c.requires.from c.requires.to)
    (rw c.flip.ensures at
    (doing_exactly needs arch w m d c.flip.new.self case c.is_doing_masked.result c.requires.case c.if-not-case.false
    (rw c.flip.ensures (flip_keeps d k c.requires.from c.requires.to))
    (rw (sym c.instruction.ensures) (sym c.is_clocked.ensures ∙ c.if-is_clocked.false)) (rw doing at c.is_doing_masked.ensures)))
