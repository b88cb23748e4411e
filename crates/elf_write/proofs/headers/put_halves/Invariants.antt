use Rattle.std.proofs.Common.{◌≡◌, ◌++◌, drop}
use Rattle.std.specs.List.{flat_map}
use Rattle.byteorder.specs.Endian.{little_bytes}
use Rattle.elf_write.proofs.headers.put_halves.Given as goal

-- what is put and what is left make all fields
abbrev pub invariant-loop-half : goal.invariant-loop-half
invariant-loop-half l = l.file.items ++ flat_map (little_bytes 2) (drop l.half-index l.halves) ≡ l.initial.file.items ++ flat_map (little_bytes 2) l.halves
