use Rattle.std.proofs.Common.{◌≡◌, length, get_or, ◌∙◌, ap, arith}
use Rattle.std.proofs.lemmas.List.{get_or_default, take_all}
use Rattle.wb_cache.specs.declared.event.EventKind.TheVariants.{Read}
use Rattle.event_log.specs.Events.{cycles_of}
use Rattle.event_log.specs.Lookups.{has_line}
use Rattle.tag_dist.proofs.Noted.{asked-more, asked-none}
use Rattle.tag_dist.proofs.lookups.asked_lines.Goals as goal

pub loop-event-init : goal.loop-event-init
loop-event-init c = rw c.new-asked.ensures.empty (asked-none c.args.events.now)

pub loop-event-preserved : goal.loop-event-preserved
loop-event-preserved c =
    asked-more c.args.events.now c.loop-event.event-index
    (get_or c.args.events.now c.loop-event.event-index
    (record { cycle = 0; kind = Read; line = 0; set = 0; way = 0; mask = 0; word = 0 })) c.loop-event.asked.entries c.note_line.new.asked.entries
    (omega arith) (get_or_default c.args.events.now c.loop-event.event-index _ _ (omega arith)) c.in_ok-note_line.ensures c.loop-event.invariant

pub returns : goal.returns
returns c =
    let n : c.loop-event.event-index ≡ length c.args.events.now = omega arith in
    λ line. c.loop-event.invariant line ∙ ap (cycles_of (has_line line)) (take_all c.loop-event.event-index c.args.events.now (omega arith))
