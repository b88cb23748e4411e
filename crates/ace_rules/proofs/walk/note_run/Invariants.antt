use Rattle.std.proofs.Common.{◌+◌, ◌*◌, ◌≤◌, length}
use Rattle.ace_rules.specs.Walking.{IsWalk}
use Rattle.ace_rules.specs.Walks.{story_of}
use Rattle.ace_rules.proofs.walk.note_run.Given as goal

abbrev pub invariant-loop-t : goal.invariant-loop-t
invariant-loop-t g l =
    IsWalk (story_of l.recorded l.trace) l.needs l.t l.walker
    × (l.steps ≤ l.initial.steps + l.t) × (l.applies ≤ l.initial.applies + 33 * length l.walker.notes.words.items)
