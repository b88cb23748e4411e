use Rattle.std.proofs.Common.{◌≡◌, length, drop, get_or, ◌∙◌, ap, arith}
use Rattle.std.proofs.lemmas.List.{get_or_default, take_all, take_at}
use Rattle.wb_cache.specs.declared.event.EventKind.TheVariants.{Read}
use Rattle.event_log.specs.Events.{cycles_of}
use Rattle.event_log.specs.Lookups.{fills}
use Rattle.tag_dist.proofs.Noted.{IsFilled, filled-more, filled-none}
use Rattle.tag_dist.proofs.lookups.filled_slots.Goals as goal

pub loop-event-init : goal.loop-event-init
loop-event-init c = rw (c.in_ok-filled.ensures, c.slot_count.ensures.value) (filled-none c.args.shape.now c.args.events.now)

pub loop-event-preserved : goal.loop-event-preserved
loop-event-preserved c =
    let fs = c.note_fill.new.filled in
    let same : length fs ≡ c.loop-event.filled.len = omega (arith, c.note_fill.auto.filled, ap length c.deref_mut.ensures.value, c.loop-event.filled.ok.0) in
    let noted : IsFilled c.args.shape.now c.args.events.now c.loop-event.event-index c.deref_mut.result.now =
    rw c.deref_mut.ensures.value c.loop-event.invariant in
    rw (take_at fs (drop (length fs) c.loop-event.filled.items) c.loop-event.filled.len same)
    (filled-more c.args.shape.now c.args.events.now c.loop-event.event-index c.slot_number-slot.result
    (get_or c.args.events.now c.loop-event.event-index
    (record { cycle = 0; kind = Read; line = 0; set = 0; way = 0; mask = 0; word = 0 })) c.deref_mut.result.now fs (omega arith)
    (get_or_default c.args.events.now c.loop-event.event-index _ _
    (omega arith)) c.slot_number-slot.ensures.value c.note_fill.auto.filled c.in_ok-note_fill.ensures noted)

pub returns-clause-lists : goal.returns-clause-lists
returns-clause-lists c = λ l h. c.loop-event.invariant.list l h
    ∙ ap (cycles_of (fills c.args.shape.now l)) (take_all c.loop-event.event-index c.args.events.now (omega arith))
