use Rattle.std.proofs.lemmas.Bool.{eqb-true, eqb-false}
use Rattle.std.proofs.Common.{sym}
use Rattle.rv_asm.proofs.Reading.{end_at, no_end_at}
use Rattle.rv_asm.proofs.tokens.end.Goals as goal

pub returns-then-is_empty : goal.returns-then-is_empty
returns-then-is_empty c = end_at c.args.text.now c.trim_start-text.result.now c.trim_start-text.ensures (eqb-true _ _ (sym c.if-is_empty.ensures))

pub returns-else-is_empty : goal.returns-else-is_empty
returns-else-is_empty c = no_end_at c.args.text.now c.trim_start-text.result.now c.trim_start-text.ensures (eqb-false _ _ (sym c.if-is_empty.ensures))
