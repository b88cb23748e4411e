use Rattle.std.proofs.Common.{◌≡◌, ◌+◌, ◌-◌, ◌*◌, ℕ, ap, subst, arith}
use Rattle.bit_field.specs.declared.places.Structure.TheVariants.{CData}
use Rattle.run_record.specs.Run.{RecordedRun}
use Rattle.ace_count.specs.RunCounts.{HasClass}
use Rattle.ace_rules.specs.Tallies.{ArePairsAdded}
use Rattle.ace_rules.proofs.Pairs.{pairs-later, pairs-most, pairs-start}
use Rattle.ace_count.proofs.bytes.add_byte.Goals as goal

pub loop-cycle-init : goal.loop-cycle-init
loop-cycle-init c = record {
  within = omega arith;
  added = pairs-start (λ k. HasClass c.args.a.now CData (8 * c.args.byte + k)) 8 c.args.row.now;
}

pub add_byte-cycle-requires-clause-room : goal.add_byte-cycle-requires-clause-room
add_byte-cycle-requires-clause-room c = λ n.
    let cycles : c.recorded.result.now.cycles ≡ c.args.a.now.r.cycles = ap (λ (r : RecordedRun). r.cycles) c.recorded.ensures in
    let most = pairs-most (λ k. HasClass c.args.a.now CData (8 * c.args.byte + k)) 8 c.loop-cycle.cycle c.args.row.now c.loop-cycle.row
    c.loop-cycle.invariant.added n in
    let room = c.requires.room n in
    omega (arith, most, room, cycles)

pub loop-cycle-preserved : goal.loop-cycle-preserved
loop-cycle-preserved c =
    let cycles : c.recorded.result.now.cycles ≡ c.args.a.now.r.cycles = ap (λ (r : RecordedRun). r.cycles) c.recorded.ensures in
    let from = c.loop-cycle.cycle in
    let until = c.add_byte-cycle.result in
    let after = c.add_byte-cycle.ensures.after in
    let within = c.add_byte-cycle.ensures.within in
    let e : from + (until - from) ≡ until = omega (arith, after) in
    record {
      within = omega (arith, within, cycles);
      added =
          subst (λ (n : ℕ). ArePairsAdded (λ k. HasClass c.args.a.now CData (8 * c.args.byte + k)) 8 n c.args.row.now c.add_byte-cycle.new.row) e
          (pairs-later (λ k. HasClass c.args.a.now CData (8 * c.args.byte + k)) 8 from (until - from) c.args.row.now c.loop-cycle.row c.add_byte-cycle.new.row c.loop-cycle.invariant.added
          c.add_byte-cycle.ensures.added);
    }
