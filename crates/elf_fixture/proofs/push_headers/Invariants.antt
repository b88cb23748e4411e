use Rattle.std.proofs.Common.{◌≡◌, ◌++◌, take}
use Rattle.elf_fixture.specs.Files.{headers_bytes}
use Rattle.elf_fixture.proofs.push_headers.Given as goal

abbrev pub invariant-loop-header : goal.invariant-loop-header
invariant-loop-header l = l.file.items ≡ l.initial.file.items ++ headers_bytes (take l.header-index l.headers)
