use Rattle.std.proofs.Common.{subst}
use Rattle.avf_report.specs.Texts.{report_text_of}
use Rattle.avf_tool.specs.Due.{Text, only}
use Rattle.avf_tool.specs.Stages.{IsText}
use Rattle.avf_tool.proofs.CountsTold.{counts_told}
use Rattle.avf_tool.proofs.reports.report_of.Goals as goal

pub returns : goal.returns
returns c =
    counts_told c.args.analysis.now.r (report_text_of c.args.analysis.now.r) c.counts_of-counts.result c.report_bytes.result
    c.counts_of-counts.ensures
    (subst (λ r. IsText (only (Text (report_text_of r c.counts_of-counts.result))) c.report_bytes.result) c.recorded.ensures c.report_bytes.ensures)
