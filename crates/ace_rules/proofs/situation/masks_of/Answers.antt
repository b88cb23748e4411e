use Rattle.std.proofs.Common.{subst}
use Rattle.ace_rules.specs.Situations.{AreKept}
use Rattle.ace_rules.proofs.SameMasks.{same_masks}
use Rattle.ace_rules.proofs.situation.masks_of.Goals as goal

pub returns-then-same_situation : goal.returns-then-same_situation
returns-then-same_situation c =
    same_masks c.args.needs.now c.args.arch.now c.in-Some.last.situation c.args.situation.now c.in-Some.last.masks
    (c.same_situation.ensures c.if-same_situation.true) (subst (AreKept c.args.needs.now c.args.arch.now) c.in-Some.is c.requires.kept)
