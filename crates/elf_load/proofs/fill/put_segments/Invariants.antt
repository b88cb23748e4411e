use Rattle.std.proofs.Common.{ℕ, ◌<◌, length, slice_index}
use Rattle.elf_load.proofs.Filling.{HasSegments}
use Rattle.elf_load.proofs.fill.put_segments.Given as goal

abbrev pub invariant-loop-segment : goal.invariant-loop-segment
invariant-loop-segment l =
    record { has : HasSegments l.segments l.segment-index l.base (length l.initial.ram) l.ram; bytes : (k : ℕ) → slice_index l.ram k < 256 }
