use Rattle.avf_tool.proofs.CountsTold.{plan_told}
use Rattle.avf_tool.proofs.reports.plan_of.Goals as goal

pub returns : goal.returns
returns c =
    plan_told c.args.analysis.now.r c.args.bits c.counts_of-counts.result c.best-plan.result c.plan_bytes.result
    c.counts_of-counts.ensures c.best-plan.ensures c.plan_bytes.ensures
