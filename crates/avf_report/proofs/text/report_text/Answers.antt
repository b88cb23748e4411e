use Rattle.avf_report.proofs.Lines.{report_parts}
use Rattle.avf_report.proofs.text.report_text.Goals as goal

pub returns : goal.returns
returns c =
    rw (
      c.in_ok-push_all_rules.ensures,
      c.in_ok-push_str-2.ensures.bytes,
      c.deref.ensures,
      c.in_ok-total_line.ensures,
      c.in_ok-push_all_structures.ensures,
      c.in_ok-push_str.ensures.bytes,
      c.in_ok-text.ensures,
    )
    (report_parts c.args.recorded.now c.args.counts.now)
