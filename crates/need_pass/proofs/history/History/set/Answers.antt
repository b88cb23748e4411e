use Rattle.std.proofs.Common.{sym, ◌∙◌, ap}
use Rattle.need_pass.proofs.Histories.{set_pushed, set_kept}
use Rattle.need_pass.specs.Histories.{mask_at}
use Rattle.need_pass.proofs.history.History.set.Goals as goal

pub returns-in_ok-push : goal.returns-in_ok-push
returns-in_ok-push c = λ i.
    rw (c.in_ok-push.ensures.items, ← c.self.view_is) (set_pushed c.self.inside.changes.items c.cut.new.changes.items c.args.at c.args.mask c.cut.ensures.above c.cut.ensures.later i)

pub returns-else-earliest-mask : goal.returns-else-earliest-mask
returns-else-earliest-mask c = λ i.
    rw (← c.self.view_is) (set_kept c.self.inside.changes.items c.cut.new.changes.items c.args.at c.args.mask c.cut.ensures.above c.cut.ensures.later (ap (λ xs. mask_at xs 0) (sym c.deref.ensures.value) ∙ sym c.earliest.ensures ∙ c.if-earliest-mask.false) i)
