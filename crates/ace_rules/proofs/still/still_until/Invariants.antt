use Rattle.std.proofs.Common.{◌≡◌, ◌≤◌, ◌<◌, ◌-◌, ℕ, length, nat_le, slice_get}
use Rattle.ace_rules.proofs.still.still_until.Given as goal

abbrev pub invariant-loop-until : goal.invariant-loop-until
invariant-loop-until l = record {
  after : l.cycle < l.until;
  within : l.until ≤ length l.notes;
  note : (t : ℕ) → l.cycle ≤ t → t < l.until → slice_get l.notes t ≡ slice_get l.notes l.cycle;
  quiet : (t : ℕ) → l.cycle ≤ t → t < l.until → nat_le l.quiet t ≡ nat_le l.quiet l.cycle;
}

abbrev pub decreases-loop-until : goal.decreases-loop-until
decreases-loop-until l = l.cycles - l.until
