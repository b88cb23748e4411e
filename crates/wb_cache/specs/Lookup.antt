-- Where a line stands in the cache. A line is a byte address divided by 16; the lowest bits of it are its set, and the
-- others its tag.
use Rattle.std.specs.Prelude.{ℕ, zero, suc, ◌+◌, ◌*◌, ◌/◌, ◌%◌, ◌==◌, ◌&&◌, Bool, cond, Option, Some, None}
use Rattle.bit_field.specs.declared.shapes.Shape.{Shape}
use Rattle.wb_cache.specs.Contents.{Slot}

abbrev pub set_of : Shape → ℕ → ℕ
set_of shape line = line % shape.sets

abbrev pub tag_of : Shape → ℕ → ℕ
tag_of shape line = line / shape.sets

-- the line of a set that has a tag
abbrev pub line_of : Shape → ℕ → ℕ → ℕ
line_of shape set tag = shape.sets * tag + set

-- whether a slot of the line's set holds the line
abbrev pub holds : Shape → ℕ → Slot → Bool
holds shape line slot = slot.valid && slot.tag == tag_of shape line

-- the least number below n that passes
abbrev pub or_at : Option ℕ → Bool → ℕ → Option ℕ
or_at (Some w) test n = Some w
or_at None test n = cond test (Some n) None

unfoldable pub first_below : ℕ → (ℕ → Bool) → Option ℕ
first_below zero test = None
first_below (suc n) test = or_at (first_below n test) (test n) n

-- the first valid way whose tag is the line's
unfoldable pub way_of : Shape → (ℕ → ℕ → Slot) → ℕ → Option ℕ
way_of shape cache line = first_below shape.ways (λ w. holds shape line (cache (set_of shape line) w))
