use Rattle.std.proofs.Common.{◌≡◌, ◌<◌, [], length, get_or, sym, ◌∙◌, ap, subst, arith}
use Rattle.std.proofs.lemmas.List.{get_or_default}
use Rattle.bit_field.specs.Shapes.{slots}
use Rattle.change_list.specs.Lists.{first_from}
use Rattle.slot_history.specs.Histories.{Histories, held_at, held_in, shows_from}
use Rattle.slot_history.specs.declared.changes.Held.TheVariants.{Vacant}
use Rattle.slot_history.proofs.Shown.{same-until, shows-above}
use Rattle.slot_history.proofs.table.SlotTable.next_change.Goals as goal

pub returns-clause-above : goal.returns-clause-above
returns-clause-above c = rw (c.shows_from.ensures, c.first_from.ensures) (shows-above c.index.result.now c.args.cycle c.requires.cycle)

pub returns-clause-same : goal.returns-clause-same
unfolding held_in
returns-clause-same c =
    let below : c.args.slot < slots c.self.inside.shape = subst
    (λ (table : Histories). c.args.slot < slots table.shape) (sym c.self.view_is) c.requires.slot in
    let within : c.args.slot < length c.self.inside.changes.items = omega (arith, below, c.self.invariant.changes) in
    let at : c.index.result.now ≡ get_or c.args.self.now.changes c.args.slot [] = c.index.ensures
    ∙ get_or_default c.self.inside.changes.items c.args.slot c.index.result.now [] within
    ∙ ap (λ (table : Histories). get_or table.changes c.args.slot []) c.self.view_is in
    let shows : c.shows_from.result ≡ shows_from (first_from c.args.cycle c.index.result.now) = c.shows_from.ensures
    ∙ ap shows_from c.first_from.ensures in
    λ t l m. ap (λ xs. held_at xs t) (sym at)
    ∙ same-until Vacant c.index.result.now c.args.cycle t l (subst (λ n. t < n) shows m) ∙ ap (λ xs. held_at xs c.args.cycle) at
