use Rattle.std.proofs.Common.{◌≡◌, ◌+◌, ◌*◌, ◌^◌, ◌≤◌, length}
use Rattle.rv_asm.specs.Faults.{first_fault}
use Rattle.rv_asm.specs.Labels.{found}
use Rattle.rv_asm.specs.Layout.{start}
use Rattle.rv_asm.specs.Lines.{lines}
use Rattle.rv_asm.proofs.search.first_fault.Given as goal

-- the first fault of the lines that are left is that of all
abbrev pub invariant-loop-rest : goal.invariant-loop-rest
invariant-loop-rest l = record {
  fault : first_fault (found l.labels) l.cursor l.number (lines l.rest) ≡ first_fault (found l.labels) start 1 (lines l.fn.source);
  number : l.number + length l.rest ≤ 2 ^ 20 + 1;
  text : l.cursor.text_size + 2 ^ 19 * length l.rest ≤ 2 ^ 39;
  data_room : l.cursor.data_size + 2 ^ 19 * length l.rest ≤ 2 ^ 39;
}

abbrev pub decreases-loop-rest : goal.decreases-loop-rest
decreases-loop-rest l = length l.rest
