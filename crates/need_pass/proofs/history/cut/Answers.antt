use Rattle.std.proofs.Common.{ltb, sym, subst, rules}
use Rattle.std.proofs.lemmas.List.Sorted.{IsPartitionPoint-from_clause}
use Rattle.need_pass.proofs.Histories.{falling_above, kept_above, kept_later}
use Rattle.need_pass.specs.Histories.{IsFalling}
use Rattle.need_pass.proofs.history.cut.Goals as goal

pub returns-clause-above : goal.returns-clause-above
returns-clause-above c =
    let xs = c.args.changes.now.items in
    let falls : IsFalling c.deref.result.now = subst IsFalling (sym c.deref.ensures.value) c.requires in
    let point = IsPartitionPoint-from_clause (λ x. ltb c.args.at x.at) c.deref.result.now _ c.partition_point-kept.ensures.partitioned (falling_above c.deref.result.now c.args.at falls) (λ a r q k. search rules) in
    rw (c.truncate.ensures.items, ← c.deref.ensures.value) (kept_above c.deref.result.now c.args.at c.partition_point-kept.result c.partition_point-kept.ensures.bound point.0)

pub returns-clause-later : goal.returns-clause-later
returns-clause-later c =
    let falls : IsFalling c.deref.result.now = subst IsFalling (sym c.deref.ensures.value) c.requires in
    let point = IsPartitionPoint-from_clause (λ x. ltb c.args.at x.at) c.deref.result.now _ c.partition_point-kept.ensures.partitioned (falling_above c.deref.result.now c.args.at falls) (λ a r q k. search rules) in
    λ i l. rw (c.truncate.ensures.items, ← c.deref.ensures.value) (kept_later 0 c.deref.result.now c.args.at i c.partition_point-kept.result l point.1)
