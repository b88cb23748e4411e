use Rattle.std.proofs.Common.{rules, arith}
use Rattle.class_map.proofs.UnAce.{stays_un_ace, un_ace_more}
use Rattle.class_map.proofs.next.interval_end.Goals as goal

pub loop-end-init : goal.loop-end-init
loop-end-init c = record {
  after = c.same_until-end.ensures.after;
  within = c.same_until-end.ensures.within;
  cycles = search rules;
  same =
      stays_un_ace c.args.a.now c.args.place.now c.args.from c.same_until-end.result c.args.rule c.same_until-end.ensures.same c.same_until-end.ensures.after
      c.requires.un_ace;
}

pub loop-end-preserved : goal.loop-end-preserved
loop-end-preserved c = record {
  after = omega (arith, c.same_until-end-in-loop-end.ensures.after);
  within = c.same_until-end-in-loop-end.ensures.within;
  cycles = c.loop-end.invariant.cycles;
  same =
      un_ace_more c.args.a.now c.args.place.now c.args.from c.loop-end.end c.same_until-end-in-loop-end.result c.args.rule c.loop-end.invariant.same
      (stays_un_ace c.args.a.now c.args.place.now c.loop-end.end c.same_until-end-in-loop-end.result c.args.rule c.same_until-end-in-loop-end.ensures.same
      c.same_until-end-in-loop-end.ensures.after (c.if-is_un_ace.ensures.0 (search rules)));
}
