-- Scaffolding of the loops that fill RAM, for the contracts of private functions: what each of them writes.
use Rattle.std.specs.Prelude.{◌≡◌, ℕ, ◌+◌, ◌-◌, ◌≤◌, Bool, true, ◌&&◌, ◌||◌, ◌<◌, nat_le, nat_lt, if◌then◌else◌, List, length, slice_index, slice_index_or}
use Rattle.std.specs.List.{All}
use Rattle.elf_load.specs.Headers.{LoadSegment}
use Rattle.elf_load.specs.Layout.{AreApart}

-- the places from `at` on have these bytes, and every other place what it had
pub record HasBytes (at : ℕ) (bytes old new : List ℕ) : Type 0 where
  pub same_length : length new ≡ length old
  pub each : (k : ℕ) → slice_index new k ≡ (if nat_le at k && nat_lt k (at + length bytes) then slice_index bytes (k - at) else slice_index old k)

-- the `count` places from `at` on are set, and every other place is as it was
pub record HasFlags (at count : ℕ) (old new : List Bool) : Type 0 where
  pub same_length : length new ≡ length old
  pub each : (k : ℕ) → k < length old → slice_index_or new k true ≡ (slice_index_or old k true || (nat_le at k && nat_lt k (at + count)))

-- These segments lie apart in the bytes from `base` on, `size` of them, and begin with no more bytes than they have.
pub record FitRam (segments : List LoadSegment) (base size : ℕ) : Type 0 where
  pub order : AreApart segments
  pub above : All (λ s. base ≤ s.vaddr) segments
  pub below : All (λ s. s.vaddr + s.memsz ≤ base + size) segments
  pub bytes : All (λ s. length s.bytes ≤ s.memsz) segments
