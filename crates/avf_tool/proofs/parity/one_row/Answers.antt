use Rattle.std.proofs.Common.{ap, ◌∙◌}
use Rattle.run_record.specs.Run.{RecordedRun}
use Rattle.avf_tool.proofs.DueTold.{one_told}
use Rattle.avf_tool.proofs.parity.one_row.Goals as goal

pub returns : goal.returns
returns c =
    one_told c.args.analysis.now c.requires.program c.requires.traced c.args.structure c.due_row-row.result c.cycles.result c.rows_bytes.result
    c.due_row-row.ensures.structure c.due_row-row.ensures.counts (c.cycles.ensures ∙ ap (λ (r : RecordedRun). r.cycles) c.recorded.ensures) c.rows_bytes.ensures
