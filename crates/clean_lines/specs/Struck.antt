-- Struck bits of the cache: a data bit or a tag bit of a line slot, and the lines that a struck tag confuses.
use Rattle.std.specs.Prelude.{◌≡◌, ℕ, ◌/◌, ◌%◌, true, false}
use Rattle.bit_field.specs.Shapes.{tag_bits}
use Rattle.bit_field.specs.declared.places.Structure.TheVariants.{CData, CTag}
use Rattle.wb_cache.specs.Changes.{set_at}
use Rattle.wb_cache.specs.Contents.{Contents, slot_at}
use Rattle.wb_cache.specs.Lookup.{line_of}
use Rattle.event_log.specs.Lookups.{distance_one}
use Rattle.cyc_machine.specs.State.{State}
use Rattle.cyc_machine.specs.Strikes.{flip_at_place}

-- Data bit k is bit k % 8 of byte k % 128 / 8 of line slot k / 128.
abbrev pub data_struck : ℕ → State → State
data_struck k s = flip_at_place s (record { structure = CData; bit = k })

-- Tag bit k is bit k % width of the tag of line slot k / width, where width is the number of bits of a tag.
abbrev pub tag_struck : ℕ → State → State
tag_struck k s = flip_at_place s (record { structure = CTag; bit = k })

-- a line slot that holds a line, clean or dirty
pub record IsCleanSlot (c : Contents) (l : ℕ) : Type 0 where
  pub valid : (slot_at c l).valid ≡ true
  pub clean : (slot_at c l).dirty ≡ false

pub record IsDirtySlot (c : Contents) (l : ℕ) : Type 0 where
  pub valid : (slot_at c l).valid ≡ true
  pub dirty : (slot_at c l).dirty ≡ true

-- the slot of tag bit k, the line that it holds, and the line that it seems to hold once the bit is flipped
abbrev pub tag_slot : Contents → ℕ → ℕ
tag_slot c k = k / tag_bits c.shape

abbrev pub tag_line : Contents → ℕ → ℕ
tag_line c k = line_of c.shape (set_at c.shape (tag_slot c k)) (slot_at c (tag_slot c k)).tag

abbrev pub near_line : Contents → ℕ → ℕ
near_line c k = distance_one c.shape (tag_line c k) (k % tag_bits c.shape)
