use Rattle.need_pass.proofs.Immediates.{mask_immediate}
use Rattle.need_pass.proofs.masks.from_immediate.Goals as goal

pub returns-in_default : goal.returns-in_default
returns-in_default c = mask_immediate c.args.kind c.args.a c.args.immediate c.args.mask c.from_a.result c.in_default.not-And c.in_default.not-Or c.from_a.ensures
