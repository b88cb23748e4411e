use Rattle.std.proofs.Common.{sym, ◌∙◌}
use Rattle.eval_mask.proofs.OtherCode.{code_exactly, code_never}
use Rattle.eval_mask.proofs.codes.code_bit.Goals as goal

pub returns-then-is_clocked : goal.returns-then-is_clocked
returns-then-is_clocked c =
    code_never c.args.needs.now c.args.arch.now c.args.w.now c.args.m.now c.args.d.now c.with_code-other.result c.args.case.now c.args.k
    c.requires.case c.requires.on_path c.requires.reached c.requires.bit c.with_code-other.ensures
    (rw (sym c.instruction.ensures) (sym c.is_clocked.ensures ∙ c.if-is_clocked.true))

pub returns : goal.returns
returns c =
    code_exactly c.args.needs.now c.args.arch.now c.args.w.now c.args.m.now c.args.d.now c.with_code-other.result c.args.case.now c.args.k
    c.is_doing_masked.result c.requires.case c.requires.on_path c.requires.reached c.requires.bit c.with_code-other.ensures
    (rw (sym c.instruction.ensures) (sym c.is_clocked.ensures ∙ c.if-is_clocked.false))
    (rw (c.doing_with-doing.ensures, c.image.ensures) at c.is_doing_masked.ensures)
