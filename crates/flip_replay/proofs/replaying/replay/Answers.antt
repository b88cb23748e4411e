use Rattle.std.proofs.Common.{◌≡◌, arith, ap, subst, ◌∙◌}
use Rattle.cyc_machine.specs.State.{State}
use Rattle.run_record.specs.Verdict.{IsVerdict}
use Rattle.flip_replay.specs.Comparison.{IsCompared}
use Rattle.flip_replay.proofs.Compared.{compared-flipped, compared-on, flipped_is, is_inside, reset-course, settled}
use Rattle.flip_replay.proofs.replaying.replay.Goals as goal

pub run_to-matched-requires-clause-going : goal.run_to-matched-requires-clause-going
run_to-matched-requires-clause-going g c =
    let r = c.args.recorded.now in ap (λ (s : State). s.ended) c.requires.reset ∙ (reset-course r.image r.shape).1

pub run_to-matched-requires-clause-number : goal.run_to-matched-requires-clause-number
run_to-matched-requires-clause-number g c =
    let r = c.args.recorded.now in
    let first : c.args.machine.cycle ≡ 0 = ap (λ (s : State). s.cycle) c.requires.reset ∙ (reset-course r.image r.shape).0 in
    let short = c.is_record.ensures.short in
    omega (arith, first, short, c.requires.cycle)

pub flip-requires : goal.flip-requires
flip-requires g c =
    is_inside c.args.recorded.now c.args.cycle c.args.place.now c.args.machine c.run_to-matched.new.machine c.requires.reset c.run_to-matched.ensures.state
    c.requires.place

pub loop-now-init : goal.loop-now-init
loop-now-init g c =
    let first =
    compared-flipped c.args.recorded.now c.args.cycle c.args.place.now c.args.machine c.run_to-matched.new.machine c.requires.reset
    c.run_to-matched.ensures.state c.flip.new.self c.flip.ensures c.run_to-matched.result c.is_record.ensures.record c.requires.cycle
    c.run_to-matched.ensures.going c.run_to-matched.ensures.put in
    (first, omega arith)

pub step-requires-clause-number : goal.step-requires-clause-number
step-requires-clause-number g c = let number = c.loop-now.invariant.0.number in omega arith

pub returns-in-Some-clause-verdict : goal.returns-in-Some-clause-verdict
returns-in-Some-clause-verdict g c =
    let r = c.args.recorded.now in
    let machine = c.loop-now.machine in
    let old = c.loop-now.comparison.matched in
    let new = c.step.new.self.matched in
    let judged = subst (λ v. IsCompared r machine c.loop-now.now old new v) c.in-Some.is c.step.ensures.judged in
    subst (λ u. IsVerdict r c.args.cycle u c.in-Some.verdict)
    (flipped_is r c.args.cycle c.args.place.now c.args.machine c.run_to-matched.new.machine c.requires.reset c.run_to-matched.ensures.state
    c.flip.new.self c.flip.ensures)
    (settled r c.args.cycle c.flip.new.self c.loop-now.now machine old c.loop-now.invariant.0 new c.in-Some.verdict (omega arith) judged)

pub loop-now-preserved : goal.loop-now-preserved
loop-now-preserved g c =
    let r = c.args.recorded.now in
    let machine = c.loop-now.machine in
    let old = c.loop-now.comparison.matched in
    let new = c.step.new.self.matched in
    let judged = subst (λ v. IsCompared r machine c.loop-now.now old new v) c.in_default.is c.step.ensures.judged in
    let next =
    compared-on r c.args.cycle c.flip.new.self c.loop-now.now machine old c.loop-now.invariant.0 c.step.new.machine new c.step.ensures.state
    judged in
    (next, omega arith)
