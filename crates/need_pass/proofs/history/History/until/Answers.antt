use Rattle.std.proofs.Common.{Option, sym, ◌∙◌, subst}
use Rattle.std.specs.Prelude.{option_map}
use Rattle.need_pass.proofs.Histories.{same_until}
use Rattle.need_pass.specs.Histories.{IsUpTo}
use Rattle.need_pass.specs.declared.history.Change.{Change}
use Rattle.need_pass.proofs.history.History.until.Goals as goal

pub returns-in-Some-clause-same : goal.returns-in-Some-clause-same
returns-in-Some-clause-same c = λ k later within.
    let found = sym c.last_change.ensures.change ∙ c.in-Some.is in
    same_until c.args.self.now c.args.i k c.last_change.ensures.falls later
    (subst (λ (o : Option Change). IsUpTo k (option_map (λ (change : Change). change.at) o)) (sym found) within)

pub returns-in-None-clause-same : goal.returns-in-None-clause-same
returns-in-None-clause-same c = λ k later within.
    let found = sym c.last_change.ensures.change ∙ c.in-None.is in
    same_until c.args.self.now c.args.i k c.last_change.ensures.falls later
    (subst (λ (o : Option Change). IsUpTo k (option_map (λ (change : Change). change.at) o)) (sym found) within)
