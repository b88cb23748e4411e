use Rattle.std.proofs.Common.{◌≡◌, ◌<◌, length, Some, List, ap, refl, subst}
use Rattle.std.specs.Prelude.{slice_get}
use Rattle.std.proofs.lemmas.Option.{slice_get_read}
use Rattle.rv_isa.proofs.Entries.{entry_well}
use Rattle.rv_isa.specs.declared.effect.Retired.{Retired}
use Rattle.rv_isa.proofs.trace.Trace.entry.Goals as goal

pub returns-clause-retired : goal.returns-clause-retired
returns-clause-retired c =
    let seen = ap (λ trace. trace.entries) c.self.view_is in
    let within : c.args.i < length c.self.inside.entries.items = rw seen c.requires in
    let read : slice_get c.self.inside.entries.items c.args.i ≡ Some c.index.result.now = slice_get_read _ _ _ _ refl within c.index.ensures in
    entry_well c.args.self.now c.args.i c.index.result.now c.comes_from_image.ensures c.requires
    (subst (λ (entries : List Retired). slice_get entries c.args.i ≡ Some c.index.result.now) seen read)
