use Rattle.std.proofs.Common.{ap, ◌∙◌}
use Rattle.bit_field.specs.declared.places.Structure.TheVariants.{CData, Rf}
use Rattle.run_record.specs.Run.{RecordedRun}
use Rattle.avf_tool.proofs.DueTold.{both_told}
use Rattle.avf_tool.proofs.parity.both_rows.Goals as goal

pub returns : goal.returns
returns c =
    both_told c.args.analysis.now c.requires.program c.requires.traced Rf CData c.due_row-registers.result c.due_row-bytes.result c.cycles.result c.rows_bytes.result
    c.due_row-registers.ensures.structure c.due_row-registers.ensures.counts c.due_row-bytes.ensures.structure c.due_row-bytes.ensures.counts
    (c.cycles.ensures ∙ ap (λ (r : RecordedRun). r.cycles) c.recorded.ensures) c.rows_bytes.ensures
