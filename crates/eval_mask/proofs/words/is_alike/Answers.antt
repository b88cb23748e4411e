use Rattle.std.proofs.Common.{sym, ◌∙◌, ap}
use Rattle.std.specs.Prelude.{not}
use Rattle.rv_table.specs.declared.op.Op.{Op}
use Rattle.eval_mask.proofs.WordBits.{illegal_alone}
use Rattle.eval_mask.proofs.words.is_alike.Goals as goal

pub returns-then-is_none-clause-alike : goal.returns-then-is_none-clause-alike
returns-then-is_none-clause-alike g c =
    illegal_alone c.args.needs.now c.args.i c.args.arch.now c.args.word c.args.other c.args.own.now
    (ap (λ (op : Op). op.code) (sym c.decode-op.ensures.operation) ∙ c.if-op-eq-ILLEGAL_CODE.true) c.requires.own
    (c.is_none.ensures ∙ ap not c.if-is_none.true)
