use Rattle.std.proofs.Common.{arith, length, sym, ◌∙◌}
use Rattle.ace_rules.specs.Situations.{situation_of}
use Rattle.ace_rules.specs.Walks.{story_of}
use Rattle.ace_rules.proofs.KeptMasks.{kept_on}
use Rattle.ace_rules.proofs.Walked.{applies-kept, applies-left, walk-commits, walk-count, walk-cycle, walk-leaves, walk-order, walk-running}
use Rattle.ace_rules.proofs.Walked.{walk-within, walk-words, walked_more}
use Rattle.ace_rules.proofs.walk.note_cycle.Goals as goal

pub masked-now-requires-clause-within : goal.masked-now-requires-clause-within
masked-now-requires-clause-within g c = walk-within c.args.trace.now c.args.needs.now c.args.t c.args.walker.now c.requires

pub note_of-note-requires-clause-order : goal.note_of-note-requires-clause-order
note_of-note-requires-clause-order g c = walk-order c.args.trace.now c.args.needs.now c.args.t c.args.walker.now c.requires

pub returns-in_err-push-clause-applies : goal.returns-in_err-push-clause-applies
returns-in_err-push-clause-applies g c =
    let words = walk-words c.args.trace.now c.args.needs.now c.args.t c.args.walker.now c.requires in omega (arith, words)

pub step-report-requires-clause-running : goal.step-report-requires-clause-running
step-report-requires-clause-running g c = walk-running c.args.trace.now c.args.needs.now c.args.t c.args.walker.now c.requires

pub step-report-requires-clause-cycles : goal.step-report-requires-clause-cycles
step-report-requires-clause-cycles g c = walk-cycle c.args.trace.now c.args.needs.now c.args.t c.args.walker.now c.requires

pub leave_if-requires-clause-some : goal.leave_if-requires-clause-some
leave_if-requires-clause-some g c =
    λ h. walk-leaves c.args.trace.now c.args.needs.now c.args.t c.args.walker.now c.requires (sym c.step-report.ensures.cycle.retired ∙ h)

pub leave_if-requires-clause-commits : goal.leave_if-requires-clause-commits
leave_if-requires-clause-commits g c = walk-commits c.args.trace.now c.args.needs.now c.args.t c.args.walker.now c.requires

pub returns-in_err-leave_if-clause-applies : goal.returns-in_err-leave_if-clause-applies
returns-in_err-leave_if-clause-applies g c =
    applies-left c.step-report.result.retired c.leave_if.new.applies c.args.applies.now (length c.args.walker.now.notes.words.items)
    (length c.args.trace.now.entries) c.in_err-leave_if.ensures.ticks
    (walk-words c.args.trace.now c.args.needs.now c.args.t c.args.walker.now c.requires)
    (λ h. walk-leaves c.args.trace.now c.args.needs.now c.args.t c.args.walker.now c.requires (sym c.step-report.ensures.cycle.retired ∙ h))

pub returns-clause-goes : goal.returns-clause-goes
returns-clause-goes g c = λ r told below walk. record {
  walked = walked_more (story_of r c.args.trace.now) c.args.needs.now told c.args.walker.now.last
      c.args.t c.args.walker.now.executed c.count_after-walker.result
      c.args.walker.now.machine c.step-report.new.self c.args.walker.now.arch c.leave_if.new.arch c.args.walker.now.notes.cycles.items
      c.push.new.self.items c.note_of-note.result c.args.walker.now.notes.words.items c.leave_if.new.words.items c.args.walker.now.notes.quiet
      c.quiet_after-walker.result c.step-report.result.retired c.step-report.result.issued below walk.walked
      (c.note_of-note.ensures c.args.needs.now c.args.walker.now.arch c.masked-now.ensures.masks) c.step-report.ensures.cycle.state
      c.step-report.ensures.cycle.retired c.in_ok-leave_if.ensures.leaves c.in_ok-leave_if.ensures.arch c.in_ok-leave_if.ensures.words
      c.step-report.ensures.cycle.issued c.count_after-walker.ensures c.in_ok-push.ensures.items c.quiet_after-walker.ensures;
  masks = rw c.kept-walker.ensures (kept_on c.args.needs.now c.args.walker.now.arch c.leave_if.new.arch c.step-report.result.retired
      c.masked-now.result (situation_of c.args.walker.now.machine c.args.walker.now.executed) c.in_ok-leave_if.ensures.arch
      c.masked-now.ensures.situation c.masked-now.ensures.masks);
  clock = walk.clock;
}

pub returns-clause-applies : goal.returns-clause-applies
returns-clause-applies g c =
    applies-left c.step-report.result.retired c.leave_if.new.applies c.args.applies.now (length c.args.walker.now.notes.words.items)
    (length c.args.trace.now.entries) c.in_ok-leave_if.ensures.ticks
    (walk-words c.args.trace.now c.args.needs.now c.args.t c.args.walker.now c.requires)
    (λ h. walk-leaves c.args.trace.now c.args.needs.now c.args.t c.args.walker.now c.requires (sym c.step-report.ensures.cycle.retired ∙ h))

pub returns-clause-counted : goal.returns-clause-counted
returns-clause-counted g c =
    applies-kept c.step-report.result.retired c.leave_if.new.applies c.args.applies.now (length c.args.walker.now.notes.words.items)
    (length c.leave_if.new.words.items) c.in_ok-leave_if.ensures.ticks
    (walk-count c.args.trace.now c.args.needs.now c.args.t c.args.walker.now c.requires c.step-report.result.retired c.args.walker.now.arch
    c.leave_if.new.arch c.args.walker.now.notes.words.items c.leave_if.new.words.items c.in_ok-leave_if.ensures.leaves
    c.in_ok-leave_if.ensures.words)
