use Rattle.std.proofs.Common.{◌≡◌, ltb, leb, sym, ◌∙◌, ap, subst, rules}
use Rattle.std.specs.List.{find, slice_get}
use Rattle.std.proofs.lemmas.List.Sorted.{IsPartitionPoint-from_clause}
use Rattle.event_log.proofs.Searches.{partitioned, found-at, copied-item}
use Rattle.change_list.specs.Lists.{first_from, IsRising}
use Rattle.change_list.proofs.changes.ChangeList.first_from.Goals as goal

pub returns : goal.returns
unfolding first_from
returns g c =
    let e : c.deref.result.now ≡ c.args.self.now = c.deref.ensures.value ∙ c.self.view_is in
    let rising : IsRising c.deref.result.now = subst IsRising (sym e) c.requires in
    let point = IsPartitionPoint-from_clause (λ x. ltb x.cycle c.args.t) c.deref.result.now _ c.partition_point-earlier.ensures.partitioned
    (partitioned (λ x. x.cycle) c.deref.result.now c.args.t rising) (λ a r q k. search rules) in
    let found = found-at
    (λ x. x.cycle) c.args.t c.deref.result.now c.partition_point-earlier.result c.partition_point-earlier.ensures.bound point.0 point.1 in
    c.copied.ensures ∙ copied-item _ _ _ c.get.ensures.lookup
    ∙ ap (λ ys. slice_get ys c.partition_point-earlier.result) (c.deref-2.ensures.value ∙ sym c.deref.ensures.value) ∙ found
    ∙ ap (λ ys. find (λ x. leb c.args.t x.cycle) ys) e
