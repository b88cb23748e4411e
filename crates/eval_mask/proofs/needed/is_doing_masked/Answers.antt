use Rattle.eval_mask.proofs.Masked.{not_true}
use Rattle.eval_mask.proofs.Missed.{parted_never}
use Rattle.eval_mask.proofs.Unneeded.{given_alike}
use Rattle.eval_mask.proofs.needed.is_doing_masked.Goals as goal

pub returns-then-not-goes_alike : goal.returns-then-not-goes_alike
returns-then-not-goes_alike c = (
  λ t. absurd (not_true t),
  λ a.
      absurd
      (parted_never c.args.needs.now c.args.arch.now c.args.case.now c.args.doing.now c.goes_alike.result c.goes_alike.ensures
      c.if-not-goes_alike.true a),
)

pub returns-then-writes_both : goal.returns-then-writes_both
returns-then-writes_both c =
    let both = c.if-writes_both.true in
    given_alike c.args.needs.now c.args.arch.now c.args.case.now c.args.doing.now c.gives_same.result c.requires.own c.requires.need
    (c.goes_alike.ensures.0 c.if-not-goes_alike.false) (c.writes_both.ensures.given both) (c.writes_both.ensures.own both)
    (c.writes_both.ensures.register both) c.gives_same.ensures
