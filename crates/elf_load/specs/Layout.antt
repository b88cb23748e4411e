-- How segments lie one after the other.
use Rattle.std.specs.Prelude.{◌≡◌, ℕ, ◌+◌, ◌%◌, ◌<◌, ◌≤◌, List}
use Rattle.std.specs.List.{All, AllPairs}
use Rattle.elf_load.specs.declared.sizes.TheConstants.{BLOCK, LEAST_RAM, MOST_RAM}
use Rattle.elf_load.specs.Headers.{LoadSegment}

-- RAM has a whole number of blocks, and from 1 to 16 MiB
pub record IsRamSize (size : ℕ) : Type 0 where
  pub blocks : size % BLOCK ≡ 0
  pub least : LEAST_RAM ≤ size
  pub most : size ≤ MOST_RAM

-- in order of address, each with bytes
pub record AreInOrder (segments : List LoadSegment) : Type 0 where
  pub some : All (λ s. 0 < s.memsz) segments
  pub rising : AllPairs (λ s t. s.vaddr ≤ t.vaddr) segments

-- each ends before the next begins
pub record AreApart (segments : List LoadSegment) : Type 0 where
  pub some : All (λ s. 0 < s.memsz) segments
  pub apart : AllPairs (λ s t. s.vaddr + s.memsz ≤ t.vaddr) segments
