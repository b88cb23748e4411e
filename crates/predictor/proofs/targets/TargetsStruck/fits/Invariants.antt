use Rattle.std.proofs.Common.{ℕ, ◌<◌, get_or}
use Rattle.predictor.specs.Tables.{Target}
use Rattle.predictor.specs.EntryBits as entry
use Rattle.predictor.proofs.targets.TargetsStruck.fits.Given as goal

abbrev pub invariant-loop-entry : goal.invariant-loop-entry
invariant-loop-entry l = (k : ℕ) (d : Target) → k < l.entry-index → entry.IsFit (get_or l.entry-items k d)
