use Rattle.cyc_machine.proofs.Events.{event-law, events-law}
use Rattle.cyc_machine.proofs.HeldSlots.{held-law}
use Rattle.cyc_machine.proofs.facts.events_law.Goals as goal

pub returns-clause-cycle : goal.returns-clause-cycle
returns-clause-cycle c = event-law

pub returns-clause-runs : goal.returns-clause-runs
returns-clause-runs c = events-law

pub returns-clause-held : goal.returns-clause-held
returns-clause-held c = held-law
