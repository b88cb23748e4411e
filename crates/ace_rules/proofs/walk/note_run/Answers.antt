use Rattle.std.proofs.Common.{◌≡◌, ℕ, arith, length, subst}
use Rattle.ace_rules.specs.Walking.{IsWalk}
use Rattle.ace_rules.specs.Walks.{story_of}
use Rattle.ace_rules.proofs.Walked.{walk_end}
use Rattle.ace_rules.proofs.walk.note_run.Goals as goal

pub loop-t-init : goal.loop-t-init
loop-t-init g c = (c.in_ok-walker.ensures c.args.needs.now c.requires, omega arith, omega arith)

pub note_cycle-requires : goal.note_cycle-requires
note_cycle-requires g c = record {
  r = c.args.recorded.now;
  told = c.requires;
  below = omega (arith, c.loop-t-test.true, c.cycles-t-end.ensures);
  walk = c.loop-t.invariant.0;
}

pub returns-clause-notes : goal.returns-clause-notes
returns-clause-notes g c =
    walk_end (story_of c.args.recorded.now c.args.trace.now) c.args.needs.now c.requires c.loop-t.walker
    (subst (λ (t : ℕ). IsWalk (story_of c.args.recorded.now c.args.trace.now) c.args.needs.now t c.loop-t.walker)
    (omega (arith, c.loop-t-test.false, c.loop-t.auto.t-end, c.cycles-t-end.ensures)) c.loop-t.invariant.0)

pub returns-clause-applies : goal.returns-clause-applies
returns-clause-applies g c =
    let all : length c.loop-t.walker.notes.words.items ≡ length c.args.trace.now.entries =
    (walk_end (story_of c.args.recorded.now c.args.trace.now) c.args.needs.now c.requires c.loop-t.walker
    (subst (λ (t : ℕ). IsWalk (story_of c.args.recorded.now c.args.trace.now) c.args.needs.now t c.loop-t.walker)
    (omega (arith, c.loop-t-test.false, c.loop-t.auto.t-end, c.cycles-t-end.ensures)) c.loop-t.invariant.0)).instructions in
    omega (arith, all, c.loop-t.invariant.2)
