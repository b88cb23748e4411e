use Rattle.std.proofs.Common.{◌≡◌, ◌∙◌, ap, arith}
use Rattle.change_list.specs.Lists.{last_value}
use Rattle.change_list.proofs.Found.{last-none, last-some}
use Rattle.change_list.proofs.changes.ChangeList.last_value.Goals as goal

pub returns-in-Some : goal.returns-in-Some
returns-in-Some g c =
    let e : c.deref.result.now ≡ c.args.self.now = c.deref.ensures.value ∙ c.self.view_is in
    let item = c.in-Some.ensures.item in
    last-some c.args.start c.deref.result.now c.in-Some.change.now item.3.0 item.1 ∙ ap (last_value c.args.start) e

pub returns-in-None : goal.returns-in-None
returns-in-None g c =
    let e : c.deref.result.now ≡ c.args.self.now = c.deref.ensures.value ∙ c.self.view_is in
    let item = c.in-None.ensures.item in
    last-none c.args.start c.deref.result.now (omega (arith, item)) ∙ ap (last_value c.args.start) e
