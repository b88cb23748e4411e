use Rattle.std.proofs.Common.{◌≡◌, ap, arith, inl, inr}
use Rattle.std.proofs.lemmas.Bool.{cases_order}
use Rattle.run_record.specs.Run.{RecordedRun}
use Rattle.ace_count.specs.RunCounts.{HasClass}
use Rattle.ace_count.proofs.BitClasses.{one_each}
use Rattle.ace_rules.proofs.Tallies.{added-most, added-on, added-start, number-most}
use Rattle.ace_count.proofs.intervals.add_bit.Goals as goal

pub loop-cycle-init : goal.loop-cycle-init
loop-cycle-init c = record {
  within = omega arith;
  added = added-start (HasClass c.args.a.now c.args.place.now.structure c.args.place.now.bit) c.args.row.now;
}

pub overflow_add-row : goal.overflow_add-row
overflow_add-row c =
    let has = HasClass c.args.a.now c.args.place.now.structure c.args.place.now.bit in
    let n = c.from-in-loop-cycle.result in
    let most = added-most has c.loop-cycle.cycle c.args.row.now c.loop-cycle.row c.loop-cycle.invariant.added n in
    let room = c.requires.room n in
    omega (arith, most, room)

pub loop-cycle-preserved : goal.loop-cycle-preserved
loop-cycle-preserved c =
    let bit = c.args.place.now in
    let cycles : c.recorded.result.now.cycles ≡ c.args.a.now.r.cycles = ap (λ (r : RecordedRun). r.cycles) c.recorded.ensures in
    let full = c.loop-cycle.invariant.added.full in
    let most = number-most c.class_of-class.result in
    let after = c.idle_until-until.ensures.after in
    let below = c.idle_until-until.ensures.within in
    record {
      within = omega (arith, below, cycles);
      added =
          added-on (HasClass c.args.a.now bit.structure bit.bit) (one_each c.args.a.now bit.structure bit.bit) c.loop-cycle.cycle
          c.idle_until-until.result c.args.row.now c.loop-cycle.row c.loop-cycle.invariant.added c.class_of-class.result after
          c.class_of-class.ensures.class c.class_of-class.result
          (λ t l before. elim (cases_order t c.loop-cycle.cycle) [
            | inl same ↦ rw same c.class_of-class.ensures.class
            | inr (inl earlier) ↦ absurd (omega (arith, earlier, l))
            | inr (inr later) ↦ c.idle_until-until.ensures.stays c.class_of-class.result t later before (omega (arith, before, below))
                c.class_of-class.ensures.class
          ]) c.from-in-loop-cycle.result c.from.result (omega arith) (omega (arith, full, most)) (omega arith);
    }
