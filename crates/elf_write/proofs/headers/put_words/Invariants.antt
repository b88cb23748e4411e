use Rattle.std.proofs.Common.{◌≡◌, ◌++◌, drop}
use Rattle.std.specs.List.{flat_map}
use Rattle.byteorder.specs.Endian.{little_bytes}
use Rattle.elf_write.proofs.headers.put_words.Given as goal

-- what is put and what is left make all fields
abbrev pub invariant-loop-word : goal.invariant-loop-word
invariant-loop-word l = l.file.items ++ flat_map (little_bytes 4) (drop l.word-index l.words) ≡ l.initial.file.items ++ flat_map (little_bytes 4) l.words
