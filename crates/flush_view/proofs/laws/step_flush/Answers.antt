use Rattle.std.proofs.Common.{subst, sym}
use Rattle.flush_view.specs.FlushLaw.{FlushLaw}
use Rattle.flush_view.specs.Ignored.{LockstepLaw}
use Rattle.flush_view.specs.MemoryLaw.{MemoryLaw}
use Rattle.flush_view.proofs.Flush.FlushLaw.{flush-law}
use Rattle.flush_view.proofs.Lockstep.LockstepLaw.{lockstep-law}
use Rattle.flush_view.proofs.Memory.MemoryLaw.{memory-law}
use Rattle.flush_view.proofs.Progress.ProgressLaw.{progress}
use Rattle.cyc_machine.proofs.Sizes.Lasting.{machine-steady}
use Rattle.flush_view.proofs.laws.step_flush.Goals as goal

pub returns-clause-memory : goal.returns-clause-memory
returns-clause-memory g c =
    let is = c.is_machine.ensures in
    subst (MemoryLaw c.args.m.now) (sym c.step.ensures.cycle.state) (memory-law c.args.m.now (machine-steady c.args.m.now is))

pub returns-clause-flush : goal.returns-clause-flush
returns-clause-flush g c =
    let is = c.is_machine.ensures in
    subst (FlushLaw c.args.m.now) (sym c.step.ensures.cycle.state) (flush-law c.args.m.now (machine-steady c.args.m.now is))

pub returns-clause-progress : goal.returns-clause-progress
returns-clause-progress g c = progress c.args.m.now (machine-steady c.args.m.now c.is_machine.ensures)

pub returns-clause-lockstep : goal.returns-clause-lockstep
returns-clause-lockstep g c =
    subst (LockstepLaw c.args.m.now) (sym c.step.ensures.cycle.state) (lockstep-law c.args.m.now (machine-steady c.args.m.now c.is_machine.ensures))
