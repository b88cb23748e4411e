use Rattle.std.proofs.Common.{arith}
use Rattle.ace_rules.proofs.Told.{event_log, told_of}
use Rattle.ace_rules.proofs.analysis.Analysis.new.Goals as goal

pub note_run-requires : goal.note_run-requires
note_run-requires g c =
    told_of c.args.recorded c.in_ok-trace.trace c.in_ok-needs.needs (rw (← c.image.ensures) c.is_image.ensures) c.is_record.ensures.record
    c.is_record.ensures.timed (omega (arith, c.is_record.ensures.short)) c.in_ok-trace.ensures.traced c.in_ok-needs.ensures.law c.in_ok-needs.ensures.exact

pub returns-in_err-notes-clause-applies : goal.returns-in_err-notes-clause-applies
returns-in_err-notes-clause-applies g c =
    omega (arith, c.note_run.ensures.applies, c.trace_of.ensures.ticks, c.in_ok-trace.ensures.count)

pub returns-in_err-life-clause-applies : goal.returns-in_err-life-clause-applies
returns-in_err-life-clause-applies g c =
    omega (arith, c.note_run.ensures.applies, c.trace_of.ensures.ticks, c.in_ok-trace.ensures.count)

pub returns-in_err-tags-clause-applies : goal.returns-in_err-tags-clause-applies
returns-in_err-tags-clause-applies g c =
    omega (arith, c.note_run.ensures.applies, c.trace_of.ensures.ticks, c.in_ok-trace.ensures.count)

pub returns-in_err-slots-clause-applies : goal.returns-in_err-slots-clause-applies
returns-in_err-slots-clause-applies g c =
    omega (arith, c.note_run.ensures.applies, c.trace_of.ensures.ticks, c.in_ok-trace.ensures.count)

pub returns-clause-applies : goal.returns-clause-applies
returns-clause-applies g c =
    omega (arith, c.note_run.ensures.applies, c.trace_of.ensures.ticks, c.in_ok-trace.ensures.count)

pub data_life-requires-clause-shape : goal.data_life-requires-clause-shape
data_life-requires-clause-shape g c = rw c.shape-shape.ensures c.is_record.ensures.record.fits

pub data_life-requires-clause-events : goal.data_life-requires-clause-events
data_life-requires-clause-events g c =
    rw (c.shape-shape.ensures, c.events-events.ensures)
    (event_log c.args.recorded (rw (← c.image.ensures) c.is_image.ensures) c.is_record.ensures.record)

pub tag_table-requires-clause-shape : goal.tag_table-requires-clause-shape
tag_table-requires-clause-shape g c = rw c.shape-shape.ensures c.is_record.ensures.record.fits

pub tag_table-requires-clause-events : goal.tag_table-requires-clause-events
tag_table-requires-clause-events g c =
    rw (c.shape-shape.ensures, c.events-events.ensures)
    (event_log c.args.recorded (rw (← c.image.ensures) c.is_image.ensures) c.is_record.ensures.record)

pub slot_table-requires-clause-shape : goal.slot_table-requires-clause-shape
slot_table-requires-clause-shape g c = rw c.shape-shape.ensures c.is_record.ensures.record.fits

pub slot_table-requires-clause-events : goal.slot_table-requires-clause-events
slot_table-requires-clause-events g c =
    rw (c.shape-shape.ensures, c.events-events.ensures)
    (event_log c.args.recorded (rw (← c.image.ensures) c.is_image.ensures) c.is_record.ensures.record)

pub invariant_of-result : goal.invariant_of-result
invariant_of-result g c = record {
  told =
      told_of c.args.recorded c.in_ok-trace.trace c.in_ok-needs.needs (rw (← c.image.ensures) c.is_image.ensures) c.is_record.ensures.record
      c.is_record.ensures.timed (omega (arith, c.is_record.ensures.short)) c.in_ok-trace.ensures.traced c.in_ok-needs.ensures.law c.in_ok-needs.ensures.exact;
  noted = c.in_ok-notes.ensures.notes;
  lives = rw (← c.events-events.ensures, ← c.shape-shape.ensures, ← c.cycles.ensures) c.in_ok-life.ensures;
  lines = rw (← c.events-events.ensures, ← c.shape-shape.ensures) c.in_ok-tags.ensures;
  held = rw (← c.events-events.ensures, ← c.shape-shape.ensures) c.in_ok-slots.ensures;
}
