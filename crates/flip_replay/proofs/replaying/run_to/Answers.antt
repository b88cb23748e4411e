use Rattle.std.proofs.Common.{◌≡◌, ◌+◌, ◌≤◌, true, false, arith, refl, sym, ap, length, ◌∙◌}
use Rattle.std.specs.Prelude.{None, is_some}
use Rattle.cyc_machine.specs.Cycle.{end_in, put_in}
use Rattle.cyc_machine.specs.Run.{output_after}
use Rattle.flip_replay.proofs.Follows.{follows-first, follows-on, put-first, put-on}
use Rattle.flip_replay.proofs.replaying.run_to.Goals as goal
use Rattle.flip_replay.proofs.replaying.run_to.Goals.{then-is_some, else-is_some}

pub loop-cycle-init : goal.loop-cycle-init
loop-cycle-init g c =
    (follows-first c.args.machine.now c.args.machine.now refl c.requires.going, put-first c.args.machine.now, omega arith, omega arith)

pub loop-cycle-preserved : goal.loop-cycle-preserved
loop-cycle-preserved g c =
    let s = c.args.machine.now in
    let n = c.loop-cycle._cycle in
    let machine = c.loop-cycle.machine in
    let old = c.loop-cycle.put in
    let f = c.loop-cycle.invariant.0 in
    let none : end_in machine ≡ None = ap end_in f.state ∙ c.requires.running n c.loop-cycle-test.true in
    let puts : is_some (put_in machine) ≡ c.is_some.result = sym (c.is_some.ensures ∙ ap is_some c.step.ensures.cycle.put) in
    let put : c.if-is_some.put ≡ length (output_after (n + 1) s) =
    elim c.if-is_some.branch [
      | then-is_some w ↦ w.put-is ∙ put-on s n machine true old (puts ∙ w.if-is_some.true) f c.loop-cycle.invariant.1
      | else-is_some w ↦ w.put-is ∙ put-on s n machine false old (puts ∙ w.if-is_some.false) f c.loop-cycle.invariant.1
    ] in
    let few : c.if-is_some.put ≤ n + 1 =
    elim c.if-is_some.branch [ then-is_some w ↦ omega (arith, w.put-is) | else-is_some w ↦ omega (arith, w.put-is) ] in
    let next = follows-on s n machine c.step.new.self c.step.ensures.cycle.state none f in
    (next, put, few, omega arith)
