use Rattle.wb_cache.proofs.Sizes.{slot_below}
use Rattle.event_log.proofs.slots.slot_number.Goals as goal

pub returns-clause-within : goal.returns-clause-within
returns-clause-within c = rw c.from.ensures (slot_below c.args.shape.now c.args.set c.args.way c.requires.shape c.requires.set c.requires.way)
