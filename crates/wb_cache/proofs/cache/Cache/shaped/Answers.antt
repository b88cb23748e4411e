use Rattle.std.proofs.Common.{arith, ap, length, ◌∙◌}
use Rattle.std.proofs.lemmas.List.{length-replicate}
use Rattle.wb_cache.specs.Tags.{TagArray}
use Rattle.wb_cache.proofs.Sizes.{nodes_most, slots_most}
use Rattle.wb_cache.proofs.cache.Cache.shaped.Goals as goal

pub cleared-requires : goal.cleared-requires
cleared-requires c = rw (c.from.ensures, c.from-2.ensures) (slots_most c.args.shape.now c.requires)

pub cleared-requires-2 : goal.cleared-requires-2
cleared-requires-2 c = rw (c.from.ensures, c.from-2.ensures) (slots_most c.args.shape.now c.requires)

pub cleared-requires-3 : goal.cleared-requires-3
cleared-requires-3 c = rw (c.from-3.ensures, c.from-4.ensures) (nodes_most c.args.shape.now c.requires)

pub invariant_of-result : goal.invariant_of-result
invariant_of-result c = (
  record {
    shape = c.requires;
    bytes = grind (arith, length-replicate, c.in_ok-zeroed.ensures);
    tags = ap (λ (t : TagArray). length t.tags) c.in_ok-zeroed-2.ensures ∙ length-replicate _ _;
    valid = grind (arith, length-replicate, c.in_ok-cleared.ensures);
    dirty = grind (arith, length-replicate, c.in_ok-cleared-2.ensures);
    nodes = grind (arith, length-replicate, c.in_ok-cleared-3.ensures);
  },
  ap (λ (t : TagArray). t.width) c.in_ok-zeroed-2.ensures,
)
