use Rattle.std.proofs.Common.{◌≡◌, ◌+◌, length}
use Rattle.rv_isa.proofs.Follows.{Follows}
use Rattle.rv_isa.proofs.runs.run_clocked.Given as goal

abbrev pub invariant-loop : goal.invariant-loop
invariant-loop g l =
    record {
      follows : Follows l.image l.clocks l.entries.items l.output.items l.arch;
      counted : length l.entries.items ≡ l.counter;
      ticks : l.applies ≡ l.initial.applies + l.counter;
    }
