use Rattle.class_map.proofs.Checked.{judged_more}
use Rattle.class_map.proofs.check.judge_lines.Goals as goal

pub loop-text-preserved : goal.loop-text-preserved
loop-text-preserved c = record {
  judged =
      judged_more c.args.a.now c.args.progress.now c.loop-text.progress c.judge.new.progress c.args.piece.now c.in-Some.text.now c.loop-text.used
      c.loop-text.invariant.judged c.in-Some.ensures c.in_default-judge.ensures.ok c.in_default-judge.ensures.seen c.in_default-judge.ensures.short;
  bounded = c.judge.ensures.bounded;
}
