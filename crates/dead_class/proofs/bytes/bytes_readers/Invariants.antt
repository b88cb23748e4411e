use Rattle.std.proofs.Common.{◌≡◌}
use Rattle.dead_class.specs.Readers.{of_bytes}
use Rattle.dead_class.proofs.bytes.bytes_readers.Given as goal

abbrev pub invariant-loop-n : goal.invariant-loop-n
invariant-loop-n l = l.readers ≡ of_bytes l.bytes.entries l.addr l.n
