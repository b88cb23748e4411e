-- Coherence of the cache, but for the lines of a set X. X is given by a test on lines: `out line` says that it is in X.
use Rattle.elf_load.specs.Image.{ram_byte}
use Rattle.std.specs.Prelude.{◌≡◌, ℕ, ◌/◌, ◌%◌, ◌<◌, Bool, true, false}
use Rattle.bit_field.specs.declared.shapes.Shape.{Shape}
use Rattle.wb_cache.specs.Contents.{Slot, slots}
use Rattle.wb_cache.specs.Lookup.{holds, set_of}
use Rattle.cyc_machine.specs.State.{State}

-- at most one valid way holds the line
abbrev pub IsSingle : Shape → (ℕ → ℕ → Slot) → ℕ → Type 0
IsSingle shape cache line =
    (v w : ℕ) → v < shape.ways → w < shape.ways
    → holds shape line (cache (set_of shape line) v) ≡ true
    → holds shape line (cache (set_of shape line) w) ≡ true
    → v ≡ w

-- a clean way that holds the line equals main memory, which is 0 outside RAM
abbrev pub IsClean : Shape → (ℕ → ℕ) → (ℕ → ℕ → Slot) → ℕ → Type 0
IsClean shape ram cache line =
    (w p : ℕ) → w < shape.ways
    → holds shape line (cache (set_of shape line) w) ≡ true
    → (cache (set_of shape line) w).dirty ≡ false
    → p / 16 ≡ line
    → (cache (set_of shape line) w).bytes (p % 16) ≡ ram p

-- each line that isn't in X is held once at most, and equals main memory where it is clean
pub record Coherent (shape : Shape) (out : ℕ → Bool) (ram : ℕ → ℕ) (cache : ℕ → ℕ → Slot) : Type 0 where
  pub single : (line : ℕ) → out line ≡ false → IsSingle shape cache line
  pub clean : (line : ℕ) → out line ≡ false → IsClean shape ram cache line

abbrev pub IsCoherent : (ℕ → Bool) → State → Type 0
IsCoherent out s = Coherent s.cache.shape out (ram_byte s.image s.memory) (slots s.cache)
