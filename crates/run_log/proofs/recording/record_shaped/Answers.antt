use Rattle.std.proofs.Common.{◌≡◌, ◌+◌, sym, ◌∙◌, subst, arith, add-one}
use Rattle.cyc_machine.specs.Run.{IsRunning}
use Rattle.run_log.proofs.Ending.{past}
use Rattle.run_log.proofs.Keeping.{Kept, ends, goes_on, starts}
use Rattle.run_log.proofs.Programs.{endless, is_run}
use Rattle.run_log.proofs.recording.record_shaped.Goals as goal

pub loop-cycle-init : goal.loop-cycle-init
loop-cycle-init g c =
    (starts c.args.image.now c.args.shape.now c.in_ok-machine.machine c.new-journal.result c.in_ok-machine.ensures c.new-journal.ensures, omega arith)

pub close-requires-clause-record : goal.close-requires-clause-record
close-requires-clause-record g c =
    ends c.args.image.now c.args.shape.now c.loop-cycle.cycle c.loop-cycle.machine c.loop-cycle.journal c.run_cycle.new.journal c.loop-cycle.invariant.0
    c.in_ok-end.ensures.written
    c.requires.shape c.in-Some.end (c.loop-cycle.cycle + 1) (sym c.in_ok-end.ensures.end ∙ c.in-Some.is) (add-one c.loop-cycle.cycle)

pub returns-in-Some-clause-answer : goal.returns-in-Some-clause-answer
returns-in-Some-clause-answer g c =
    let record_is = ends c.args.image.now c.args.shape.now c.loop-cycle.cycle c.loop-cycle.machine c.loop-cycle.journal c.run_cycle.new.journal
    c.loop-cycle.invariant.0 c.in_ok-end.ensures.written
    c.requires.shape c.in-Some.end (c.loop-cycle.cycle + 1) (sym c.in_ok-end.ensures.end ∙ c.in-Some.is) (add-one c.loop-cycle.cycle) in
    rw c.close.ensures
    (is_run c.args.image.now c.args.shape.now c.args.budget (c.loop-cycle.cycle + 1) c.in-Some.end c.run_cycle.new.journal c.run_law.ensures record_is (omega arith))

pub loop-cycle-preserved : goal.loop-cycle-preserved
loop-cycle-preserved g c =
    let next = goes_on c.args.image.now c.args.shape.now c.loop-cycle.cycle c.loop-cycle.machine c.loop-cycle.journal c.run_cycle.new.journal
    c.loop-cycle.invariant.0 c.in_ok-end.ensures.written
    c.run_cycle.new.machine c.run_cycle.ensures.state (sym c.in_ok-end.ensures.end ∙ c.in_default.is) in
    (subst (λ t. Kept c.args.image.now c.args.shape.now t c.run_cycle.new.machine c.run_cycle.new.journal) (sym (add-one c.loop-cycle.cycle)) next, omega arith)

pub returns-clause-answer : goal.returns-clause-answer
returns-clause-answer g c =
    let last : c.loop-cycle.cycle ≡ c.args.budget = omega arith in
    endless c.args.image.now c.args.shape.now c.args.budget c.run_law.ensures
    (subst (IsRunning c.args.image.now c.args.shape.now) last c.loop-cycle.invariant.0.running)

pub returns-in_err-end-clause-within : goal.returns-in_err-end-clause-within
returns-in_err-end-clause-within g c r within =
    let long = past c.args.image.now c.args.shape.now c.args.budget c.loop-cycle.cycle r c.requires.shape c.loop-cycle.invariant.0.running within in
    omega (arith, long, c.run_cycle.ensures.steps, c.loop-cycle.invariant.1)

pub returns-in-Some-clause-within : goal.returns-in-Some-clause-within
returns-in-Some-clause-within g c r within =
    let long = past c.args.image.now c.args.shape.now c.args.budget c.loop-cycle.cycle r c.requires.shape c.loop-cycle.invariant.0.running within in
    omega (arith, long, c.run_cycle.ensures.steps, c.loop-cycle.invariant.1)

pub returns-clause-within : goal.returns-clause-within
returns-clause-within g c r within =
    let long = past c.args.image.now c.args.shape.now c.args.budget c.loop-cycle.cycle r c.requires.shape c.loop-cycle.invariant.0.running within in
    omega (arith, long, c.loop-cycle.invariant.1)
