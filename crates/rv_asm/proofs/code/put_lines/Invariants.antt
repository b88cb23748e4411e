use Rattle.std.proofs.Common.{◌≡◌, ◌+◌, ◌*◌, ◌^◌, ◌≤◌, ◌++◌, None, length}
use Rattle.std.specs.List.{AllByRecursion, flat_map}
use Rattle.elf_write.specs.Code.{IsCoded, op_bytes}
use Rattle.rv_asm.specs.Faults.{first_fault}
use Rattle.rv_asm.specs.Labels.{found}
use Rattle.rv_asm.specs.Layout.{end_of, start}
use Rattle.rv_asm.specs.Lines.{lines}
use Rattle.rv_asm.specs.Program.{bytes_in, ops_in}
use Rattle.rv_asm.proofs.code.put_lines.Given as goal

-- What is put and what the lines that are left give make both parts, and all their instructions decode where those that are left do; the parts are as
-- long as the cursor says; no line that is left has a fault.
abbrev pub invariant-loop-rest : goal.invariant-loop-rest
invariant-loop-rest l = record {
  code : l.text_part.items ++ flat_map op_bytes (ops_in (found l.labels) l.cursor (lines l.rest))
      ≡ flat_map op_bytes (ops_in (found l.labels) start (lines l.fn.source));
  contents : l.data_part.items ++ bytes_in l.cursor (lines l.rest) ≡ bytes_in start (lines l.fn.source);
  coded : AllByRecursion IsCoded (ops_in (found l.labels) l.cursor (lines l.rest))
      → AllByRecursion IsCoded (ops_in (found l.labels) start (lines l.fn.source));
  end : end_of l.cursor (lines l.rest) ≡ end_of start (lines l.fn.source);
  text_size : length l.text_part.items ≡ l.cursor.text_size;
  data_size : length l.data_part.items ≡ l.cursor.data_size;
  faultless : first_fault (found l.labels) l.cursor l.number (lines l.rest) ≡ None;
  number : l.number + length l.rest ≤ 2 ^ 20 + 1;
  text : l.cursor.text_size + 2 ^ 19 * length l.rest ≤ 2 ^ 39;
  data_room : l.cursor.data_size + 2 ^ 19 * length l.rest ≤ 2 ^ 39;
}

abbrev pub decreases-loop-rest : goal.decreases-loop-rest
decreases-loop-rest l = length l.rest
