use Rattle.std.proofs.Common.{◌≡◌, ℕ, cond}
use Rattle.std.specs.Prelude.{Some}
use Rattle.need_pass.specs.Links.{has_byte}
use Rattle.dead_class.specs.Readers.{both, of_byte}
use Rattle.dead_class.proofs.bytes.read_bytes.Given as goal

abbrev pub invariant-loop-n : goal.invariant-loop-n
invariant-loop-n l = (p : ℕ) → of_byte l.bytes.entries p ≡ cond (has_byte (Some (l.addr, l.n)) p) (both l.reader (of_byte l.initial.bytes.entries p)) (of_byte l.initial.bytes.entries p)
