use Rattle.std.proofs.Common.{◌≡◌, ℕ, ◌+◌, ◌*◌, ◌^◌, ◌≤◌, List, length}
use Rattle.std.specs.Option.{option_or}
use Rattle.rv_asm.specs.Labels.{found}
use Rattle.rv_asm.specs.Layout.{definitions, end_of, first_of, place_of, start}
use Rattle.rv_asm.specs.Lines.{lines}
use Rattle.rv_asm.proofs.layout.lay_out.Given as goal

-- What is found and the definitions of the lines that are left are all definitions. A line has a byte at least, and adds 2^19 at most.
abbrev pub invariant-loop-rest : goal.invariant-loop-rest
invariant-loop-rest l = record {
  labels : (q : List ℕ) → option_or (found l.labels q) (first_of q (definitions l.cursor l.number (lines l.rest))) ≡ place_of l.fn.source q;
  end : end_of l.cursor (lines l.rest) ≡ end_of start (lines l.fn.source);
  number : l.number + length l.rest ≤ 2 ^ 20 + 1;
  text : l.cursor.text_size + 2 ^ 19 * length l.rest ≤ 2 ^ 39;
  data_room : l.cursor.data_size + 2 ^ 19 * length l.rest ≤ 2 ^ 39;
}

abbrev pub decreases-loop-rest : goal.decreases-loop-rest
decreases-loop-rest l = length l.rest
