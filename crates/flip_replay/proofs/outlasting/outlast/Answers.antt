use Rattle.std.proofs.Common.{◌+◌, Some, None, arith, refl, sym, subst, ◌∙◌}
use Rattle.cyc_machine.proofs.Sizes.Lasting.{machine-steady}
use Rattle.flip_replay.specs.Lasting.{Outlasts}
use Rattle.flip_replay.proofs.Course.{ended, lasted}
use Rattle.flip_replay.proofs.Follows.{few-on, follows-first, follows-on, retired-first, retired-on}
use Rattle.flip_replay.proofs.outlasting.outlast.Goals as goal

pub loop-made-init : goal.loop-made-init
loop-made-init g c =
    let u = c.strike.new.machine in (follows-first u u refl (c.strike.ensures.going ∙ c.requires.going), retired-first u, omega arith, omega arith)

pub loop-made-preserved : goal.loop-made-preserved
loop-made-preserved g c =
    let u = c.strike.new.machine in
    let n = c.loop-made.made in
    let machine = c.loop-made.machine in
    let old = c.loop-made.completed in
    let new = c.run_cycle.new.completed in
    let f = c.loop-made.invariant.0 in
    let next = follows-on u n machine c.run_cycle.new.machine c.run_cycle.ensures.state (sym c.run_cycle.ensures.end ∙ c.in_default.is) f in
    let completed = retired-on u n machine old new c.run_cycle.ensures.completed f c.loop-made.invariant.1 in
    let few = few-on machine old new n c.run_cycle.ensures.completed c.loop-made.invariant.2 in
    (next, completed, few, omega arith)

pub returns-in-Some-clause-outlasts : goal.returns-in-Some-clause-outlasts
returns-in-Some-clause-outlasts g c =
    let u = c.strike.new.machine in
    let n = c.loop-made.made in
    let machine = c.loop-made.machine in
    let old = c.loop-made.completed in
    let new = c.run_cycle.new.completed in
    let f = c.loop-made.invariant.0 in
    let completed = retired-on u n machine old new c.run_cycle.ensures.completed f c.loop-made.invariant.1 in
    subst (λ s. Outlasts s c.args.cycles (record { cycles = n + 1; completed = new; end = Some c.in-Some.end })) c.strike.ensures.state
    (ended u c.args.cycles n machine new c.in-Some.end c.loop-made-test.true (sym c.run_cycle.ensures.end ∙ c.in-Some.is) f completed)

pub returns-clause-outlasts : goal.returns-clause-outlasts
returns-clause-outlasts g c =
    let u = c.strike.new.machine in
    subst (λ s. Outlasts s c.args.cycles (record { cycles = c.args.cycles; completed = c.loop-made.completed; end = None })) c.strike.ensures.state
    (lasted u c.args.cycles c.loop-made.made c.loop-made.machine c.loop-made.completed (machine-steady u c.is_machine.ensures) (omega arith)
    c.loop-made.invariant.0 c.loop-made.invariant.1)
