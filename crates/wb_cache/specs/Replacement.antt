-- Which line of a set makes place for another. A set has one node less than ways: none for one way, one for two ways, and
-- for four ways a tree of three, whose node 0 chooses a pair of ways, node 1 one of the ways 0 and 1, and node 2 one of the
-- ways 2 and 3. A node that is true points to the greater ways.
use Rattle.std.specs.Prelude.{ℕ, ◌+◌, ◌-◌, ◌*◌, ◌==◌, Bool, true, false, not, cond, nat_lt, List, Option, Some, None, slice_index_or, slice_set}
use Rattle.bit_field.specs.declared.shapes.Shape.{Shape}
use Rattle.bit_field.specs.Layouts.{number_of}
use Rattle.wb_cache.specs.Contents.{Slot}
use Rattle.wb_cache.specs.Lookup.{first_below}

-- the place of node n of a set
abbrev pub node_of : Shape → ℕ → ℕ → ℕ
node_of shape set n = (shape.ways - 1) * set + n

abbrev pub node : Shape → List Bool → ℕ → ℕ → Bool
node shape nodes set n = slice_index_or nodes (node_of shape set n) false

-- the way to which the nodes of a set point
unfoldable pub replaced : Shape → List Bool → ℕ → ℕ
replaced shape nodes set =
    cond (shape.ways == 1) 0
    (cond (shape.ways == 2) (number_of (node shape nodes set 0))
    (cond (node shape nodes set 0) (2 + number_of (node shape nodes set 2)) (number_of (node shape nodes set 1))))

-- the invalid way of least number
unfoldable pub first_invalid : Shape → (ℕ → ℕ → Slot) → ℕ → Option ℕ
first_invalid shape cache set = first_below shape.ways (λ w. not (cache set w).valid)

abbrev pub way_or : Option ℕ → ℕ → ℕ
way_or (Some w) other = w
way_or None other = other

-- the invalid way of least number, else the way to which the nodes point
unfoldable pub victim : Shape → (ℕ → ℕ → Slot) → List Bool → ℕ → ℕ
victim shape cache nodes set = way_or (first_invalid shape cache set) (replaced shape nodes set)

-- the nodes once a way of a set was used: those above the way point away from it
unfoldable pub used : Shape → ℕ → ℕ → List Bool → List Bool
used shape set way nodes =
    cond (shape.ways == 1) nodes
    (cond (shape.ways == 2) (slice_set nodes (node_of shape set 0) (way == 0))
    (cond (nat_lt way 2)
    (slice_set (slice_set nodes (node_of shape set 0) true) (node_of shape set 1) (way == 0))
    (slice_set (slice_set nodes (node_of shape set 0) false) (node_of shape set 2) (way == 2))))
