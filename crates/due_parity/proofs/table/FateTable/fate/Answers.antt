use Rattle.std.proofs.Common.{◌≡◌, ◌∙◌, sym, subst}
use Rattle.due_parity.specs.Fates.{Says, fate, touch_at}
use Rattle.due_parity.specs.Notes.{IsRising}
use Rattle.due_parity.specs.declared.fate.Fate.{Fate}
use Rattle.due_parity.proofs.Decided.{rising}
use Rattle.due_parity.proofs.Said.{told}
use Rattle.due_parity.proofs.Tabled.{fate-told, row-is}
use Rattle.due_parity.proofs.table.FateTable.fate.Goals as goal

pub fate-requires : goal.fate-requires
fate-requires c =
    subst IsRising (sym (c.row.ensures ∙ row-is c.args.a.now.r c.args.self.now c.args.place.now c.requires.protected c.requires.place c.requires.table))
    (rising (touch_at c.args.a.now.r c.args.place.now) c.args.a.now.r.cycles)

pub returns-clause-exact : goal.returns-clause-exact
returns-clause-exact c =
    c.fate.ensures
    ∙ fate-told c.args.a.now.r c.args.self.now c.args.place.now c.args.cycle c.row.result.now c.requires.protected c.requires.place c.requires.table
    c.requires.cycle c.row.ensures

pub returns-clause-says : goal.returns-clause-says
returns-clause-says c =
    let exact : c.fate.result ≡ fate c.args.a.now.r c.args.place.now c.args.cycle = c.fate.ensures
    ∙ fate-told c.args.a.now.r c.args.self.now c.args.place.now c.args.cycle c.row.result.now c.requires.protected c.requires.place c.requires.table
    c.requires.cycle c.row.ensures in
    subst (λ (f : Fate). Says c.args.a.now.r c.args.place.now c.args.cycle f) (sym exact)
    (told c.args.a.now.r (rw (← c.recorded-2.ensures, ← c.image.ensures) c.is_image.ensures) (rw (← c.recorded.ensures) c.is_record.ensures.record)
    c.args.place.now c.requires.protected c.requires.place c.args.cycle c.requires.cycle)
