use Rattle.rv_asm.proofs.LineCuts.{lines-cut, lines-last}
use Rattle.rv_asm.proofs.line.next_line.Goals as goal

pub returns-then-end-text-clause-lines : goal.returns-then-end-text-clause-lines
returns-then-end-text-clause-lines c =
    rw c.without_return.ensures.line (lines-cut c.args.text.now c.line_length-end.result c.line_length-end.ensures.length c.if-end-text.true)

pub returns-else-end-text-clause-lines : goal.returns-else-end-text-clause-lines
returns-else-end-text-clause-lines c = lines-last c.args.text.now c.line_length-end.result c.line_length-end.ensures.length c.if-end-text.false c.requires
