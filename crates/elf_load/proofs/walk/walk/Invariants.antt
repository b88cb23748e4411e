use Rattle.elf_load.specs.Headers.{first_headers}
use Rattle.elf_load.specs.Walk.{IsFound}
use Rattle.elf_load.proofs.walk.walk.Given as goal

abbrev pub invariant-loop-k : goal.invariant-loop-k
invariant-loop-k l = IsFound l.file (first_headers l.file l.k) l.found
