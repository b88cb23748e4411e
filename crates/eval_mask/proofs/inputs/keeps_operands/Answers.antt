use Rattle.std.proofs.Common.{◌≡◌, sym, ◌∙◌, arith}
use Rattle.std.proofs.lemmas.Bool.Decides.{nat_tests}
use Rattle.eval_mask.proofs.Numbers.{first_kept_at, second_kept_at}
use Rattle.eval_mask.proofs.inputs.keeps_operands.Goals as goal

pub returns-then-k-lt47 : goal.returns-then-k-lt47
returns-then-k-lt47 c =
    λ t.
    let same : c.first_under.result ≡ c.args.case.now.a = grind (arith, nat_tests) in
    first_kept_at c.args.w.now c.args.d.now c.args.case.now.own.below.write c.args.k c.requires.from (omega (arith, c.if-k-lt47.true))
    (sym c.first_under.ensures ∙ same ∙ c.requires.a)

pub returns : goal.returns
returns c =
    λ t.
    let same : c.second_under.result ≡ c.args.case.now.held = grind (arith, nat_tests) in
    second_kept_at c.args.w.now c.args.d.now c.args.case.now.own.below.write c.args.k (omega (arith, c.if-k-lt47.false)) c.requires.to
    (sym c.second_under.ensures ∙ same ∙ c.requires.held)
