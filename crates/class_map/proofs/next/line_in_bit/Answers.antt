use Rattle.std.proofs.Common.{sym, arith}
use Rattle.class_map.proofs.BitLines.{begins_at_border}
use Rattle.class_map.proofs.UnAce.{ace_more, stays_ace}
use Rattle.class_map.proofs.next.line_in_bit.Goals as goal

pub loop-cycle-preserved : goal.loop-cycle-preserved
loop-cycle-preserved c = record {
  after = omega (arith, c.same_until-cycle.ensures.after);
  cycles = c.loop-cycle.invariant.cycles;
  ace =
      ace_more c.args.a.now c.args.place.now c.args.from c.loop-cycle.cycle c.same_until-cycle.result c.loop-cycle.invariant.ace
      (stays_ace c.args.a.now c.args.place.now c.loop-cycle.cycle c.same_until-cycle.result c.same_until-cycle.ensures.same c.same_until-cycle.ensures.after
      c.in-Ace.ensures.class);
}

pub line_at-requires-clause-begins : goal.line_at-requires-clause-begins
line_at-requires-clause-begins c =
    begins_at_border c.args.a.now c.args.place.now c.args.from c.loop-cycle.cycle c.number.result c.requires.border c.loop-cycle.invariant.ace
    c.loop-cycle.invariant.after (omega (arith, c.loop-cycle.invariant.cycles, c.loop-cycle-test.true))
    (record { rule = c.in-UnAce.rule; numbered = sym c.number.ensures; class = c.in-UnAce.ensures.class })
