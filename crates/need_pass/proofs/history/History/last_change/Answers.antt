use Rattle.std.proofs.Common.{◌≡◌, ℕ, ◌-◌, leb, None, Some, sym, ◌∙◌, ap, subst, get_or, arith, rules}
use Rattle.std.proofs.lemmas.List.Sorted.{IsPartitionPoint-from_clause}
use Rattle.need_pass.proofs.Histories.{falling_from, none_from, last_from}
use Rattle.need_pass.specs.Histories.{IsFalling, change_after}
use Rattle.need_pass.proofs.history.History.last_change.Goals as goal

pub returns-then-count-eq0-clause-change : goal.returns-then-count-eq0-clause-change
returns-then-count-eq0-clause-change c =
    let e : c.deref.result.now ≡ c.args.self.now = c.deref.ensures.value ∙ c.self.view_is in
    let falls : IsFalling c.deref.result.now = subst IsFalling (sym c.deref.ensures.value) c.self.invariant in
    let point = IsPartitionPoint-from_clause (λ x. leb c.args.i x.at) c.deref.result.now _ c.partition_point-count.ensures.partitioned (falling_from c.deref.result.now c.args.i falls) (λ a r q k. search rules) in
    sym (ap (λ xs. change_after None xs c.args.i) (sym e) ∙ none_from None c.deref.result.now c.args.i (λ k d p q. point.1 k d (omega arith) q))

pub returns-else-count-eq0-clause-change : goal.returns-else-count-eq0-clause-change
returns-else-count-eq0-clause-change c =
    let e : c.deref.result.now ≡ c.args.self.now = c.deref.ensures.value ∙ c.self.view_is in
    let falls : IsFalling c.deref.result.now = subst IsFalling (sym c.deref.ensures.value) c.self.invariant in
    let point = IsPartitionPoint-from_clause (λ x. leb c.args.i x.at) c.deref.result.now _ c.partition_point-count.ensures.partitioned (falling_from c.deref.result.now c.args.i falls) (λ a r q k. search rules) in
    let k : ℕ = c.partition_point-count.result - 1 in
    let found = last_from None c.deref.result.now c.args.i k c.index.result.now (omega (arith, c.partition_point-count.ensures.bound)) (λ j d p q. point.0 j d p (omega arith)) (λ j d p q. point.1 j d (omega arith) q) in
    ap Some (c.index.ensures ∙ ap (λ xs. get_or xs k c.index.result.now) (sym c.deref.ensures.value)) ∙ sym found ∙ ap (λ xs. change_after None xs c.args.i) e
