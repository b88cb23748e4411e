use Rattle.std.proofs.Common.{◌+◌, ◌≤◌}
use Rattle.std.specs.List.{AllAdjacentBelow}
use Rattle.elf_load.proofs.layout.some_overlap.Given as goal

-- each segment so far ends before the next begins
abbrev pub invariant-loop-k : goal.invariant-loop-k
invariant-loop-k l = AllAdjacentBelow (λ s t. s.vaddr + s.memsz ≤ t.vaddr) l.segments l.k
