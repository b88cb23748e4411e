use Rattle.std.proofs.Common.{◌≡◌, ℕ, ◌-◌, ltb, sym, ◌∙◌, ap, subst, get_or, arith, rules}
use Rattle.std.proofs.lemmas.List.Sorted.{IsPartitionPoint-from_clause}
use Rattle.event_log.proofs.Searches.{partitioned}
use Rattle.change_list.specs.Lists.{value_before, IsRising}
use Rattle.change_list.proofs.Found.{last-before, none-before}
use Rattle.change_list.proofs.changes.ChangeList.value_before.Goals as goal

pub returns-then-count-eq0 : goal.returns-then-count-eq0
returns-then-count-eq0 g c =
    let e : c.deref.result.now ≡ c.args.self.now = c.deref.ensures.value ∙ c.self.view_is in
    let rising : IsRising c.deref.result.now = subst IsRising (sym e) c.requires in
    let point = IsPartitionPoint-from_clause (λ x. ltb x.cycle c.args.t) c.deref.result.now _ c.partition_point-count.ensures.partitioned
    (partitioned (λ x. x.cycle) c.deref.result.now c.args.t rising) (λ a r q k. search rules) in
    sym (ap (λ xs. value_before c.args.start xs c.args.t) (sym e)
    ∙ none-before c.args.start c.deref.result.now c.args.t (λ k d p q. point.1 k d (omega arith) q))

pub returns-else-count-eq0 : goal.returns-else-count-eq0
returns-else-count-eq0 g c =
    let e : c.deref.result.now ≡ c.args.self.now = c.deref.ensures.value ∙ c.self.view_is in
    let rising : IsRising c.deref.result.now = subst IsRising (sym e) c.requires in
    let point = IsPartitionPoint-from_clause (λ x. ltb x.cycle c.args.t) c.deref.result.now _ c.partition_point-count.ensures.partitioned
    (partitioned (λ x. x.cycle) c.deref.result.now c.args.t rising) (λ a r q k. search rules) in
    let k : ℕ = c.partition_point-count.result - 1 in
    let found = last-before c.args.start c.deref.result.now c.args.t k c.index.result.now (omega (arith, c.partition_point-count.ensures.bound))
    (λ j d p q. point.0 j d p (omega arith)) (λ j d p q. point.1 j d (omega arith) q) in
    ap (λ x. x.value) (c.index.ensures ∙ ap (λ xs. get_or xs k c.index.result.now) (sym c.deref.ensures.value)) ∙ sym found
    ∙ ap (λ xs. value_before c.args.start xs c.args.t) e
