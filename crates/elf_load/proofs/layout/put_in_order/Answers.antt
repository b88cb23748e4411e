use Rattle.std.proofs.Common.{rules, arith}
use Rattle.std.proofs.lemmas.List.Sorted.{IsNonDecreasingBy-from_sort_by_key}
use Rattle.elf_load.proofs.layout.put_in_order.Goals as goal

pub returns-clause-rising : goal.returns-clause-rising
returns-clause-rising c i j d less h =
    IsNonDecreasingBy-from_sort_by_key (λ s. s.vaddr) _ c.sort_unstable_by_key.ensures.sorted (λ a r q k. search rules) i j d (omega arith) h
