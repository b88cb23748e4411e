use Rattle.std.proofs.Common.{◌-◌, length}
use Rattle.class_map.specs.Bounds.{IsBounded}
use Rattle.class_map.proofs.Checked.{IsJudgedTo}
use Rattle.class_map.proofs.check.judge_lines.Given as goal

abbrev pub invariant-loop-text : goal.invariant-loop-text
invariant-loop-text l = record {
  judged : IsJudgedTo l.a l.fn.progress l.piece l.used l.progress;
  bounded : IsBounded l.progress;
}

abbrev pub decreases-loop-text : goal.decreases-loop-text
decreases-loop-text l = length l.piece - l.used
