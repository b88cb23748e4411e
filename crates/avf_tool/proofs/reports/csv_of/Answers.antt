use Rattle.avf_report.specs.Tables.{report_csv_of}
use Rattle.avf_tool.proofs.CountsTold.{counts_told}
use Rattle.avf_tool.proofs.reports.csv_of.Goals as goal

pub returns : goal.returns
returns c =
    counts_told c.args.analysis.now.r report_csv_of c.counts_of-counts.result c.csv_bytes.result c.counts_of-counts.ensures c.csv_bytes.ensures
