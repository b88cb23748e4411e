use Rattle.std.proofs.Common.{◌≤◌, ◌<◌, ◌-◌, ℕ}
use Rattle.ace_law.specs.Classes.{IsClass}
use Rattle.ace_rules.specs.Notes.{moment}
use Rattle.ace_rules.proofs.analysis.Analysis.same_until.Given as goal

abbrev pub invariant-loop-until : goal.invariant-loop-until
invariant-loop-until l =
    (l.cycle < l.until) × (l.until ≤ l.self.r.cycles) × ((t : ℕ) → l.cycle ≤ t → t < l.until → IsClass l.class (moment l.self t) l.place)

abbrev pub decreases-loop-until : goal.decreases-loop-until
decreases-loop-until l = l.cycles - l.until
