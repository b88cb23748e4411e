use Rattle.std.proofs.Common.{◌≡◌, ◌/◌, sym, ◌∙◌, arith}
use Rattle.std.proofs.lemmas.Bool.Decides.{nat_tests}
use Rattle.eval_mask.proofs.Missed.{word_of}
use Rattle.eval_mask.proofs.inputs.is_elsewhere.Goals as goal

pub returns-in-Some : goal.returns-in-Some
returns-in-Some c =
    let own = c.in-Some.store in
    λ t.
    rw c.in-Some.is
    (λ p covered e.
    let same : c.args.address / 4 ≡ own.address / 4 = sym e ∙ word_of own p covered in
    grind (arith, nat_tests))
