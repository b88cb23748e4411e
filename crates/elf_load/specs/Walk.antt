-- Scaffolding of the walk over the program headers, for the contracts of private functions: what it has found so far.
use Rattle.std.specs.Prelude.{◌≡◌, ℕ, Bool, not, ◌&&◌, ◌||◌, if◌then◌else◌, List, [], ◌∷◌, ◌++◌, map}
use Rattle.std.specs.List.{filter, list_any}
use Rattle.elf_load.specs.declared.headers.ProgramHeader.{ProgramHeader}
use Rattle.elf_load.specs.declared.walk.Found.{Found}
use Rattle.elf_load.specs.Headers.{is_loadable, segment_of}
use Rattle.elf_load.specs.Refusal.{is_interpreter, has_bad_range}
use Rattle.elf_load.specs.Answers.{lent}

-- a header whose segment can be lent: loadable, with its bytes in the file
unfoldable pub is_lendable : List ℕ → ProgramHeader → Bool
is_lendable file h = is_loadable h && not (has_bad_range file h)

-- what was found in these headers
pub record IsFound (file : List ℕ) (headers : List ProgramHeader) (found : Found) : Type 0 where
  pub interpreter : found.interpreter ≡ list_any is_interpreter headers
  pub bad_range : found.bad_range ≡ list_any (has_bad_range file) headers
  pub segments : map lent found.segments.items ≡ map (segment_of file) (filter (is_lendable file) headers)

-- what one more header adds
pub record AddsHeader (file : List ℕ) (h : ProgramHeader) (old new : Found) : Type 0 where
  pub interpreter : new.interpreter ≡ (old.interpreter || is_interpreter h)
  pub bad_range : new.bad_range ≡ (old.bad_range || has_bad_range file h)
  pub segments : map lent new.segments.items ≡ map lent old.segments.items ++ (if is_lendable file h then segment_of file h ∷ [] else [])
