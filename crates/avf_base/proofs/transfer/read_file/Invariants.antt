use Rattle.std.proofs.Common.{◌≡◌, ◌+◌, ◌-◌, ◌≤◌, ℕ, List, length, vec_len}
use Rattle.avf_base.specs.Fronts.{IsFront}
use Rattle.avf_base.proofs.transfer.read_file.Given as goal

abbrev pub invariant-loop-shelf : goal.invariant-loop-shelf
invariant-loop-shelf g l =
    (g.H.Shelf.faults l.initial.shelf ≤ g.H.Shelf.faults l.shelf)
    × ((n : List ℕ) → g.H.Shelf.holds l.shelf n ≡ g.H.Shelf.holds l.initial.shelf n)
    × IsFront (g.H.Shelf.holds l.shelf l.name) l.bytes.items
    × (length l.buf.items ≡ 65536)

abbrev pub decreases-loop-shelf : goal.decreases-loop-shelf
decreases-loop-shelf g l = l.limit + 1 - vec_len l.bytes
