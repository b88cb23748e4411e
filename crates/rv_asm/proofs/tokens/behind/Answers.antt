use Rattle.std.proofs.Common.{sym, arith, ◌<◌, ◌≡◌, length}
use Rattle.std.proofs.lemmas.Bool.{eqb-true, eqb-false}
use Rattle.rv_asm.proofs.Reading.{mark_at, no_mark_at}
use Rattle.rv_asm.proofs.tokens.behind.Goals as goal

pub returns-then-is_empty : goal.returns-then-is_empty
returns-then-is_empty c =
    let none : length c.trim_start-text.result.now ≡ 0 = eqb-true _ _ (sym c.if-is_empty.ensures) in
    no_mark_at c.args.mark c.args.text.now c.trim_start-text.result.now c.trim_start-text.ensures (λ some e. omega arith)

pub returns-then-text-mark : goal.returns-then-text-mark
returns-then-text-mark c =
    let some = eqb-false _ _ (sym c.if-is_empty.ensures) in
    let first : 0 < length c.trim_start-text.result.now = omega (arith, some) in
    mark_at c.args.mark c.args.text.now c.trim_start-text.result.now c.requires c.trim_start-text.ensures first c.if-text-mark.true

pub returns-else-text-mark : goal.returns-else-text-mark
returns-else-text-mark c = no_mark_at c.args.mark c.args.text.now c.trim_start-text.result.now c.trim_start-text.ensures (λ some e. c.if-text-mark.false e)
