use Rattle.inst_buf.specs.Buffer.{entries}
use Rattle.ace_rules.specs.Walks.{path_addresses}
use Rattle.ace_rules.proofs.Paths.{IsCounted}
use Rattle.ace_rules.proofs.path.count_on_path.Given as goal

abbrev pub invariant-loop-k : goal.invariant-loop-k
invariant-loop-k l = IsCounted l.trace.entries l.i (path_addresses l.d (entries l.buffer)) l.k
