use Rattle.std.proofs.Common.{rules, arith}
use Rattle.class_map.proofs.UnAce.{stays_un_ace, un_ace_more}
use Rattle.class_map.proofs.judge.is_right.Goals as goal

pub loop-cycle-preserved : goal.loop-cycle-preserved
loop-cycle-preserved c = record {
  from = omega (arith, c.same_until-cycle.ensures.after);
  right =
      un_ace_more c.args.a.now c.args.line.now.place c.args.line.now.from c.loop-cycle.cycle c.same_until-cycle.result c.args.line.now.rule c.loop-cycle.invariant.right
      (stays_un_ace c.args.a.now c.args.line.now.place c.loop-cycle.cycle c.same_until-cycle.result c.args.line.now.rule c.same_until-cycle.ensures.same
      c.same_until-cycle.ensures.after (c.if-not-is_un_ace.ensures.0 (search rules)));
}
