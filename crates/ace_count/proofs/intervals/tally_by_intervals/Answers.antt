use Rattle.std.proofs.Common.{◌≤◌, arith}
use Rattle.ace_count.specs.RunCounts.{HasClass}
use Rattle.ace_rules.proofs.Tallies.{tally-next_bit, tally-none, tally-room}
use Rattle.ace_count.proofs.intervals.tally_by_intervals.Goals as goal

pub loop-bit-init : goal.loop-bit-init
loop-bit-init c = tally-none (HasClass c.args.a.now c.args.structure) c.args.a.now.r.cycles

pub add_bit-requires-clause-room : goal.add_bit-requires-clause-room
add_bit-requires-clause-room c =
    let short : c.args.a.now.r.cycles ≤ 1000000 = rw (← c.recorded.ensures) c.is_record.ensures.short in
    tally-room (HasClass c.args.a.now c.args.structure) c.loop-bit.bit c.args.a.now.r.cycles c.loop-bit.row c.loop-bit.invariant (omega arith) short

pub loop-bit-preserved : goal.loop-bit-preserved
loop-bit-preserved c =
    tally-next_bit (HasClass c.args.a.now c.args.structure) c.loop-bit.bit c.args.a.now.r.cycles c.loop-bit.row c.add_bit.new.row c.loop-bit.invariant
    c.add_bit.ensures
