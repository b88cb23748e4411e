-- The sizes that a shape gives.
use Rattle.std.proofs.Common.{◌≡◌, ◌⊎◌, ℕ, ◌+◌, ◌-◌, ◌*◌, ◌/◌, ◌%◌, ◌^◌, ◌<◌, ◌≤◌, arith}
use Rattle.bit_field.specs.declared.shapes.Shape.{Shape}
use Rattle.bit_field.specs.Shapes.{IsShape, slots as slot_count, tag_bits, index_bits}
use Rattle.wb_cache.specs.Contents.{slot_of}

slot_below_by : (sets ways set way : ℕ) → (ways ≡ 1) ⊎ (ways ≡ 2) ⊎ (ways ≡ 4) → set < sets → way < ways → ways * set + way < sets * ways
slot_below_by sets ways set way w h l = grind arith

pub slot_below : (s : Shape) (set way : ℕ) → IsShape s → set < s.sets → way < s.ways → slot_of s set way < slot_count s
slot_below s set way shape h l = slot_below_by s.sets s.ways set way shape.ways h l

slots_most_by : (sets ways : ℕ) → (sets ≡ 16) ⊎ (sets ≡ 32) ⊎ (sets ≡ 64) ⊎ (sets ≡ 128) → (ways ≡ 1) ⊎ (ways ≡ 2) ⊎ (ways ≡ 4) → sets * ways ≤ 512
slots_most_by sets ways p q = grind arith

pub slots_most : (s : Shape) → IsShape s → slot_count s ≤ 512
slots_most s shape = slots_most_by s.sets s.ways shape.sets shape.ways

nodes_most_by : (sets ways : ℕ) → (sets ≡ 16) ⊎ (sets ≡ 32) ⊎ (sets ≡ 64) ⊎ (sets ≡ 128) → (ways ≡ 1) ⊎ (ways ≡ 2) ⊎ (ways ≡ 4) → sets * (ways - 1) ≤ 512
nodes_most_by sets ways p q = grind arith

-- the nodes of all sets
pub nodes_most : (s : Shape) → IsShape s → s.sets * (s.ways - 1) ≤ 512
nodes_most s shape = nodes_most_by s.sets s.ways shape.sets shape.ways

line_below_by : (sets set tag : ℕ) → (sets ≡ 16) ⊎ (sets ≡ 32) ⊎ (sets ≡ 64) ⊎ (sets ≡ 128) → set < sets → tag < 2 ^ (28 - index_bits sets)
    → sets * tag + set < 2 ^ 28
line_below_by sets set tag p h l = grind arith

-- the line of a set and a tag
pub line_below : (s : Shape) (set tag : ℕ) → IsShape s → set < s.sets → tag < 2 ^ tag_bits s → s.sets * tag + set < 2 ^ 28
line_below s set tag shape h l = line_below_by s.sets set tag shape.sets h l

slot_apart_by : (ways set way s w : ℕ) → (ways ≡ 1) ⊎ (ways ≡ 2) ⊎ (ways ≡ 4) → way < ways → w < ways → ways * s + w ≡ ways * set + way → (s ≡ set) × (w ≡ way)
slot_apart_by ways set way s w p h l e = grind arith

-- slots of one number are one slot
pub slot_apart : (shape : Shape) (set way s w : ℕ) → IsShape shape → way < shape.ways → w < shape.ways → slot_of shape s w ≡ slot_of shape set way
    → (s ≡ set) × (w ≡ way)
slot_apart shape set way s w is h l e = slot_apart_by shape.ways set way s w is.ways h l e

set_below_by : (sets line : ℕ) → (sets ≡ 16) ⊎ (sets ≡ 32) ⊎ (sets ≡ 64) ⊎ (sets ≡ 128) → line % sets < sets
set_below_by sets line p = grind arith

pub set_below : (s : Shape) (line : ℕ) → IsShape s → line % s.sets < s.sets
set_below s line shape = set_below_by s.sets line shape.sets

-- each slot is that of a way of a set
split_by : (sets ways l : ℕ) → (ways ≡ 1) ⊎ (ways ≡ 2) ⊎ (ways ≡ 4) → l < sets * ways
    → (l / ways < sets) × (l % ways < ways) × (ways * (l / ways) + l % ways ≡ l)
split_by sets ways l p h = (grind arith, grind arith, grind arith)

pub slot-split : (s : Shape) (l : ℕ) → IsShape s → l < slot_count s → (l / s.ways < s.sets) × (l % s.ways < s.ways) × (slot_of s (l / s.ways) (l % s.ways) ≡ l)
slot-split s l shape h = split_by s.sets s.ways l shape.ways h

tag_slot_by : (sets n k : ℕ) → (sets ≡ 16) ⊎ (sets ≡ 32) ⊎ (sets ≡ 64) ⊎ (sets ≡ 128) → k < n * (28 - index_bits sets) → k / (28 - index_bits sets) < n
tag_slot_by sets n k p h = grind arith

-- each bit of the tags is one of a slot's
pub tag_slot : (s : Shape) (k : ℕ) → IsShape s → k < slot_count s * tag_bits s → k / tag_bits s < slot_count s
tag_slot s k shape h = tag_slot_by s.sets (slot_count s) k shape.sets h

-- the set and the way of the slot of a way of a set
parts_by : (sets ways set way : ℕ) → (ways ≡ 1) ⊎ (ways ≡ 2) ⊎ (ways ≡ 4) → way < ways → ((ways * set + way) / ways ≡ set) × ((ways * set + way) % ways ≡ way)
parts_by sets ways set way p l = (grind arith, grind arith)

pub slot-parts : (s : Shape) (set way : ℕ) → IsShape s → way < s.ways → (slot_of s set way / s.ways ≡ set) × (slot_of s set way % s.ways ≡ way)
slot-parts s set way shape l = parts_by s.sets s.ways set way shape.ways l
