use Rattle.std.proofs.Common.{◌∙◌}
use Rattle.eval_mask.proofs.Completed.{doing_told}
use Rattle.eval_mask.proofs.completing.doing_of.Goals as goal

pub returns : goal.returns
returns c =
    λ m memory e. c.doing_after.ensures ∙ doing_told c.args.image.now c.args.w.now m c.args.d.now memory c.args.below.now c.args.issued e
