use Rattle.std.proofs.Common.{◌≡◌, ◌≤◌, ◌+◌, ◌-◌, ℕ, ap, arith, subst, ◌∙◌}
use Rattle.bit_field.specs.Shapes.{IsShape, bits_in}
use Rattle.run_record.specs.Run.{RecordedRun}
use Rattle.ace_class.proofs.Sizes.{bits_in_most}
use Rattle.ace_rules.specs.Tallies.{IsTally}
use Rattle.ace_rules.proofs.Pairs.{tally-later}
use Rattle.ace_rules.proofs.Tallies.{tally-none_yet, tally-room_for_cycles}
use Rattle.ace_count.specs.RunCounts.{HasClass}
use Rattle.ace_count.proofs.cycles.tally_by_cycles.Goals as goal

pub loop-cycle-init : goal.loop-cycle-init
loop-cycle-init c = record {
  within = omega arith;
  tally = tally-none_yet (HasClass c.args.a.now c.args.structure) (bits_in c.args.structure c.args.a.now.r.shape);
}

pub add_cycles-cycle-requires-clause-cycle : goal.add_cycles-cycle-requires-clause-cycle
add_cycles-cycle-requires-clause-cycle c =
    let all : c.cycles-cycles.result ≡ c.args.a.now.r.cycles = c.cycles-cycles.ensures ∙ ap (λ (r : RecordedRun). r.cycles) c.recorded-2.ensures in
    omega (arith, all)

pub add_cycles-cycle-requires-clause-room : goal.add_cycles-cycle-requires-clause-room
add_cycles-cycle-requires-clause-room c =
    let fits : IsShape c.args.a.now.r.shape = rw (← c.recorded.ensures) c.is_record.ensures.record.fits in
    let short : c.args.a.now.r.cycles ≤ 1000000 = rw (← c.recorded.ensures) c.is_record.ensures.short in
    let all : c.cycles-cycles.result ≡ c.args.a.now.r.cycles = c.cycles-cycles.ensures ∙ ap (λ (r : RecordedRun). r.cycles) c.recorded-2.ensures in
    tally-room_for_cycles (HasClass c.args.a.now c.args.structure) (bits_in c.args.structure c.args.a.now.r.shape) c.loop-cycle.cycle
    c.args.a.now.r.cycles c.loop-cycle.row c.loop-cycle.invariant.tally (bits_in_most c.args.structure c.args.a.now.r.shape fits)
    (omega (arith, all, c.loop-cycle.invariant.within)) short

pub loop-cycle-preserved : goal.loop-cycle-preserved
loop-cycle-preserved c =
    let all : c.cycles-cycles.result ≡ c.args.a.now.r.cycles = c.cycles-cycles.ensures ∙ ap (λ (r : RecordedRun). r.cycles) c.recorded-2.ensures in
    let from = c.loop-cycle.cycle in
    let until = c.add_cycles-cycle.result in
    let after = c.add_cycles-cycle.ensures.after in
    let within = c.add_cycles-cycle.ensures.within in
    let e : from + (until - from) ≡ until = omega (arith, after) in
    let bits = bits_in c.args.structure c.args.a.now.r.shape in
    record {
      within = omega (arith, within, all);
      tally =
          subst (λ (n : ℕ). IsTally (HasClass c.args.a.now c.args.structure) bits n c.add_cycles-cycle.new.row) e
          (tally-later (HasClass c.args.a.now c.args.structure) bits from (until - from) c.loop-cycle.row c.add_cycles-cycle.new.row
          c.loop-cycle.invariant.tally c.add_cycles-cycle.ensures.added);
    }

pub returns : goal.returns
returns c =
    let all : c.cycles-cycles.result ≡ c.args.a.now.r.cycles = c.cycles-cycles.ensures ∙ ap (λ (r : RecordedRun). r.cycles) c.recorded-2.ensures in
    subst (λ (n : ℕ). IsTally (HasClass c.args.a.now c.args.structure) (bits_in c.args.structure c.args.a.now.r.shape) n c.loop-cycle.row)
    (omega (arith, all, c.loop-cycle.invariant.within)) c.loop-cycle.invariant.tally
