-- What the cache holds: five arrays over its line slots. The slot of a way of a set is ways * set + way.
use Rattle.std.specs.Prelude.{◌≡◌, ℕ, ◌+◌, ◌-◌, ◌*◌, ◌^◌, ◌<◌, Bool, false, ◌&&◌, cond, nat_lt, List, length, replicate, All, slice_index, slice_index_or}
use Rattle.bit_field.specs.declared.shapes.Shape.{Shape}
use Rattle.bit_field.specs.Shapes.{IsShape, tag_bits, slots as slot_count}

pub record Contents : Type 0 where
  pub shape : Shape
  pub bytes : List ℕ  -- byte o of slot l is byte 16 l + o
  pub tags : List ℕ  -- of each slot
  pub valid : List Bool  -- of each slot
  pub dirty : List Bool  -- of each slot
  pub nodes : List Bool  -- the replacement bits: node n of a set is at (ways - 1) * set + n

-- the contents of a new cache: all bits are 0
unfoldable pub empty : Shape → Contents
empty shape = record {
  shape = shape;
  bytes = replicate (16 * slot_count shape) 0;
  tags = replicate (slot_count shape) 0;
  valid = replicate (slot_count shape) false;
  dirty = replicate (slot_count shape) false;
  nodes = replicate (shape.sets * (shape.ways - 1)) false;
}

-- the arrays have the lengths of the shape
pub record IsSized (c : Contents) : Type 0 where
  pub shape : IsShape c.shape
  pub bytes : length c.bytes ≡ 16 * slot_count c.shape
  pub tags : length c.tags ≡ slot_count c.shape
  pub valid : length c.valid ≡ slot_count c.shape
  pub dirty : length c.dirty ≡ slot_count c.shape
  pub nodes : length c.nodes ≡ c.shape.sets * (c.shape.ways - 1)

-- each of these numbers is that of a byte
abbrev pub AreBytes : List ℕ → Type 0
AreBytes xs = All (λ b. b < 2 ^ 8) xs

-- besides, each byte and each tag is below its width
pub record IsContents (c : Contents) : Type 0 where
  pub sized : IsSized c
  pub bytes : AreBytes c.bytes
  pub widths : All (λ t. t < 2 ^ tag_bits c.shape) c.tags

-- One line slot. Byte o of the line it holds is bytes o, and bytes from 16 on are 0.
pub record Slot : Type 0 where
  pub valid : Bool
  pub dirty : Bool
  pub tag : ℕ
  pub bytes : ℕ → ℕ

abbrev pub no_slot : Slot
no_slot = record { valid = false; dirty = false; tag = 0; bytes = λ o. 0 }

-- the number of the slot of a way of a set
abbrev pub slot_of : Shape → ℕ → ℕ → ℕ
slot_of shape set way = shape.ways * set + way

-- the slot of number l
unfoldable pub slot_at : Contents → ℕ → Slot
slot_at c l = record {
  valid = slice_index_or c.valid l false;
  dirty = slice_index_or c.dirty l false;
  tag = slice_index c.tags l;
  bytes = λ o. cond (nat_lt o 16) (slice_index c.bytes (16 * l + o)) 0;
}

-- the slots by set and way; none stands outside the shape
unfoldable pub slots : Contents → ℕ → ℕ → Slot
slots c set way = cond (nat_lt set c.shape.sets && nat_lt way c.shape.ways) (slot_at c (slot_of c.shape set way)) no_slot
