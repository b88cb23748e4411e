use Rattle.std.proofs.Common.{◌≡◌, false}
use Rattle.elf_load.specs.Image.{any_executable}
use Rattle.elf_load.proofs.image.Image.any_executable.Given as goal

abbrev pub invariant-loop-k : goal.invariant-loop-k
invariant-loop-k l = any_executable l.self l.addr l.k ≡ false
