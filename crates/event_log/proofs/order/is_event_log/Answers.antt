use Rattle.std.proofs.Common.{◌≡◌, false, true, get_or, arith}
use Rattle.std.proofs.lemmas.List.{get_or_default}
use Rattle.wb_cache.specs.declared.event.EventKind.TheVariants.{Read}
use Rattle.event_log.proofs.Checked.{early}
use Rattle.event_log.proofs.order.is_event_log.Goals as goal

pub returns-then-from-least : goal.returns-then-from-least
returns-then-from-least c = (
  λ (no : false ≡ true). absurd (cc),
  λ log. absurd
      (early c.args.shape.now c.args.events.now c.loop-event.event-index c.loop-event.least
      (get_or c.args.events.now c.loop-event.event-index (record { cycle = 0; kind = Read; line = 0; set = 0; way = 0; mask = 0; word = 0 }))
      (omega arith) (get_or_default c.args.events.now c.loop-event.event-index _ _ (omega arith)) (omega arith) c.loop-event.invariant log),
)
