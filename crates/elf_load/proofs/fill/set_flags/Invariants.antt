use Rattle.std.proofs.Common.{◌-◌}
use Rattle.elf_load.specs.Filling.{HasFlags}
use Rattle.elf_load.proofs.fill.set_flags.Given as goal

abbrev pub invariant-loop-k : goal.invariant-loop-k
invariant-loop-k l = HasFlags l.at (l.k - l.at) l.initial.code l.code
