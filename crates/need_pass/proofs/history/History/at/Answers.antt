use Rattle.std.proofs.Common.{sym, ◌∙◌}
use Rattle.need_pass.proofs.Histories.{mask_none, mask_some}
use Rattle.need_pass.proofs.history.History.at.Goals as goal

pub returns-in-Some : goal.returns-in-Some
returns-in-Some c = sym (mask_some c.args.self.now c.args.i c.in-Some.change (sym c.last_change.ensures.change ∙ c.in-Some.is))

pub returns-in-None : goal.returns-in-None
returns-in-None c = sym (mask_none c.args.self.now c.args.i (sym c.last_change.ensures.change ∙ c.in-None.is))
