use Rattle.std.proofs.Common.{length}
use Rattle.elf_load.proofs.Filling.{HasCode}
use Rattle.elf_load.proofs.fill.set_segments.Given as goal

abbrev pub invariant-loop-segment : goal.invariant-loop-segment
invariant-loop-segment l = HasCode l.segments l.segment-index l.base (length l.initial.code) l.code
