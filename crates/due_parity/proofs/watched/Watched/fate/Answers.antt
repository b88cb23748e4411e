use Rattle.std.proofs.Common.{◌≡◌, ltb, sym, ◌∙◌, ap, subst, rules}
use Rattle.std.specs.List.{slice_get}
use Rattle.std.proofs.lemmas.List.Sorted.{IsPartitionPoint-from_clause}
use Rattle.event_log.proofs.Searches.{partitioned, found-at, copied-item}
use Rattle.due_parity.specs.Notes.{IsRising, fate_in, fate_of_first}
use Rattle.due_parity.specs.declared.watched.Noted.{Noted}
use Rattle.due_parity.proofs.Decided.{fate-found}
use Rattle.due_parity.proofs.watched.Watched.fate.Goals as goal

pub returns : goal.returns
returns c =
    let e : c.deref.result.now ≡ c.args.self.now = c.deref.ensures.value ∙ c.self.view_is in
    let rising : IsRising c.deref.result.now = subst IsRising (sym e) c.requires in
    let point = IsPartitionPoint-from_clause (λ x. ltb x.cycle c.args.t) c.deref.result.now _ c.partition_point-earlier.ensures.partitioned
    (partitioned (λ (x : Noted). x.cycle) c.deref.result.now c.args.t rising) (λ a r q k. search rules) in
    let found = found-at
    (λ (x : Noted). x.cycle) c.args.t c.deref.result.now c.partition_point-earlier.result c.partition_point-earlier.ensures.bound point.0 point.1 in
    c.fate_of.ensures
    ∙ ap fate_of_first (c.copied.ensures ∙ copied-item _ _ _ c.get.ensures.lookup
    ∙ ap (λ ys. slice_get ys c.partition_point-earlier.result) (c.deref-2.ensures.value ∙ sym c.deref.ensures.value) ∙ found)
    ∙ fate-found c.args.t c.deref.result.now
    ∙ ap (λ ys. fate_in c.args.t ys) e
