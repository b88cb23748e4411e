use Rattle.store_buf.proofs.EntryLaws.{laws}
use Rattle.store_buf.proofs.pending.PendingStruck.laws.Goals as goal

pub returns : goal.returns
returns c = laws
