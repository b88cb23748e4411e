use Rattle.std.proofs.Common.{◌≡◌, ◌++◌, take}
use Rattle.elf_fixture.specs.Files.{bytes_of_words}
use Rattle.elf_fixture.proofs.push_words.Given as goal

abbrev pub invariant-loop-word : goal.invariant-loop-word
invariant-loop-word l = l.file.items ≡ l.initial.file.items ++ bytes_of_words (take l.word-index l.words)
