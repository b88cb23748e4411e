use Rattle.flush_view.proofs.Flush.FlushLaw.{flush-law}
use Rattle.flush_view.proofs.Lockstep.LockstepLaw.{goes-in-lockstep, lockstep-law}
use Rattle.flush_view.proofs.Memory.MemoryLaw.{memory-law}
use Rattle.flush_view.proofs.Progress.ProgressLaw.{progress}
use Rattle.flush_view.proofs.laws.cycle_laws.Goals as goal

pub returns : goal.returns
returns c = record { memory = memory-law; flush = flush-law; progress = progress; lockstep = lockstep-law; for_ever = goes-in-lockstep }
