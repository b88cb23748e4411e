use Rattle.std.proofs.Common.{◌≡◌, length, drop, get_or, ap, arith}
use Rattle.std.proofs.lemmas.List.{get_or_default, take_at}
use Rattle.wb_cache.specs.declared.event.EventKind.TheVariants.{Read}
use Rattle.slot_history.proofs.Noted.{IsNoted, noted-more, noted-none, table-rises, table-tells}
use Rattle.slot_history.proofs.table.slot_table.Goals as goal

pub loop-event-init : goal.loop-event-init
loop-event-init c = rw (c.in_ok-changes.ensures, c.slot_count.ensures.value) (noted-none c.args.shape.now c.args.events.now)

pub loop-event-preserved : goal.loop-event-preserved
loop-event-preserved c =
    let news = c.note_at.new.changes in
    let same : length news ≡ c.loop-event.changes.len = omega
    (arith, c.note_at.auto.changes, ap length c.deref_mut.ensures.value, c.loop-event.changes.ok.0) in
    let noted : IsNoted c.args.shape.now c.args.events.now c.loop-event.event-index c.deref_mut.result.now = rw c.deref_mut.ensures.value
    c.loop-event.invariant in
    rw (take_at news (drop (length news) c.loop-event.changes.items) c.loop-event.changes.len same)
    (noted-more c.args.shape.now c.args.events.now c.loop-event.event-index c.slot_number-slot.result
    (get_or c.args.events.now c.loop-event.event-index
    (record {
      cycle = 0;
      kind = Read;
      line = 0;
      set = 0;
      way = 0;
      mask = 0;
      word = 0;
    })) c.deref_mut.result.now news c.requires.events (omega arith) (get_or_default c.args.events.now c.loop-event.event-index _ _ (omega arith))
    c.slot_number-slot.ensures.value c.note_at.auto.changes c.in_ok-note_at.ensures noted)

pub invariant_of-result : goal.invariant_of-result
invariant_of-result c =
    table-rises c.args.shape.now c.args.events.now c.loop-event.event-index c.loop-event.changes.items c.requires.shape (omega arith)
    c.loop-event.invariant

pub returns : goal.returns
returns c =
    table-tells c.args.shape.now c.args.events.now c.loop-event.event-index c.loop-event.changes.items c.requires.shape (omega arith)
    c.loop-event.invariant
