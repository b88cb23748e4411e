use Rattle.std.proofs.Common.{subst}
use Rattle.avf_tool.specs.BitAnswers.{IsHarmless}
use Rattle.avf_tool.proofs.CountsTold.{has_counts}
use Rattle.avf_tool.proofs.reports.counts_of.Goals as goal

pub returns : goal.returns
returns c =
    has_counts c.args.analysis.now c.count.result c.requires.program c.requires.traced c.count.ensures
    (subst IsHarmless c.recorded.ensures c.is_harmless.ensures)
