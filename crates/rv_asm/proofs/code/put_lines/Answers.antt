use Rattle.std.proofs.Common.{◌≡◌, ◌∙◌, ◌+◌, ◌≤◌, None, length, ap, sym, arith}
use Rattle.std.specs.List.{flat_map}
use Rattle.std.proofs.lemmas.Bool.{eqb-true}
use Rattle.elf_write.specs.Code.{op_bytes}
use Rattle.rv_asm.specs.Faults.{fault_of}
use Rattle.rv_asm.specs.Labels.{found}
use Rattle.rv_asm.specs.Layout.{end_of, start}
use Rattle.rv_asm.specs.Lines.{lines}
use Rattle.rv_asm.specs.Program.{bytes_in, ops_in}
use Rattle.rv_asm.specs.Shown.{shown_lines}
use Rattle.rv_asm.specs.declared.layout.Cursor.{Cursor}
use Rattle.rv_asm.proofs.LayingOut.{done_end, step_end}
use Rattle.rv_asm.proofs.Putting.{all_bytes, all_code, all_coded, faultless, step_bytes, step_code, step_coded, step_data_size, step_text_size}
use Rattle.rv_asm.proofs.Searching.{go_on}
use Rattle.rv_asm.proofs.code.put_lines.Goals as goal

pub put_line-requires-clause-faultless : goal.put_line-requires-clause-faultless
put_line-requires-clause-faultless c =
    faultless (found c.args.labels.now) c.loop-rest.cursor c.loop-rest.number c.next_line.result.0.now (lines c.loop-rest.rest.now)
    (lines c.next_line.result.1.now) (shown_lines c.line_of-line.result) c.next_line.ensures.lines c.line_of-line.ensures.line c.loop-rest.invariant.faultless

pub loop-rest-preserved : goal.loop-rest-preserved
loop-rest-preserved c =
    let shorter : length c.next_line.result.1.now + 1 ≤ length c.loop-rest.rest.now = omega (arith, c.next_line.ensures.shorter) in
    let none : fault_of (found c.args.labels.now) c.loop-rest.cursor c.loop-rest.number (shown_lines c.line_of-line.result) ≡ None =
    faultless (found c.args.labels.now) c.loop-rest.cursor c.loop-rest.number c.next_line.result.0.now (lines c.loop-rest.rest.now)
    (lines c.next_line.result.1.now) (shown_lines c.line_of-line.result) c.next_line.ensures.lines c.line_of-line.ensures.line
    c.loop-rest.invariant.faultless in
    record {
      code = step_code (found c.args.labels.now) c.loop-rest.cursor c.passed-cursor.result c.next_line.result.0.now c.loop-rest.text_part.items
          c.put_line.new.text_part.items (flat_map op_bytes (ops_in (found c.args.labels.now) start (lines c.args.source.now)))
          (lines c.loop-rest.rest.now) (lines c.next_line.result.1.now) (shown_lines c.line_of-line.result)
          c.next_line.ensures.lines c.line_of-line.ensures.line c.passed-cursor.ensures.cursor c.in_ok-put_line.ensures.code c.loop-rest.invariant.code;
      contents = step_bytes c.loop-rest.cursor c.passed-cursor.result c.next_line.result.0.now c.loop-rest.data_part.items c.put_line.new.data_part.items
          (bytes_in start (lines c.args.source.now)) (lines c.loop-rest.rest.now) (lines c.next_line.result.1.now) (shown_lines c.line_of-line.result)
          c.next_line.ensures.lines c.line_of-line.ensures.line c.passed-cursor.ensures.cursor c.in_ok-put_line.ensures.contents
          c.loop-rest.invariant.contents;
      coded = step_coded (found c.args.labels.now) c.loop-rest.cursor c.passed-cursor.result c.next_line.result.0.now
          (ops_in (found c.args.labels.now) start (lines c.args.source.now)) (lines c.loop-rest.rest.now) (lines c.next_line.result.1.now) (shown_lines
          c.line_of-line.result)
          c.next_line.ensures.lines c.line_of-line.ensures.line c.passed-cursor.ensures.cursor c.in_ok-put_line.ensures.coded c.loop-rest.invariant.coded;
      end = step_end c.loop-rest.cursor c.passed-cursor.result (end_of start (lines c.args.source.now)) c.next_line.result.0.now
          (lines c.loop-rest.rest.now) (lines c.next_line.result.1.now) (shown_lines c.line_of-line.result)
          c.next_line.ensures.lines c.line_of-line.ensures.line c.passed-cursor.ensures.cursor c.loop-rest.invariant.end;
      text_size = step_text_size (found c.args.labels.now) c.loop-rest.cursor c.passed-cursor.result c.loop-rest.number c.loop-rest.text_part.items
          c.put_line.new.text_part.items c.line_of-line.result c.passed-cursor.ensures.cursor none c.line_of-line.ensures.stands c.in_ok-put_line.ensures.code
          c.loop-rest.invariant.text_size;
      data_size = step_data_size (found c.args.labels.now) c.loop-rest.cursor c.passed-cursor.result c.loop-rest.number c.loop-rest.data_part.items
          c.put_line.new.data_part.items c.line_of-line.result c.passed-cursor.ensures.cursor none c.line_of-line.ensures.stands
          c.in_ok-put_line.ensures.contents
          c.loop-rest.invariant.data_size;
      faultless = go_on (found c.args.labels.now) c.loop-rest.cursor c.passed-cursor.result c.loop-rest.number c.next_line.result.0.now
          (lines c.loop-rest.rest.now) (lines c.next_line.result.1.now) (shown_lines c.line_of-line.result) None
          c.next_line.ensures.lines c.line_of-line.ensures.line c.passed-cursor.ensures.cursor (sym none) c.loop-rest.invariant.faultless;
      number = omega (arith, shorter, c.loop-rest.invariant.number);
      text = omega (arith, shorter, c.loop-rest.invariant.text, c.passed-cursor.ensures.text);
      data_room = omega (arith, shorter, c.loop-rest.invariant.data_room, c.passed-cursor.ensures.data_room);
    }

pub returns-clause-code : goal.returns-clause-code
returns-clause-code c =
    all_code (found c.args.labels.now) c.loop-rest.cursor c.loop-rest.rest.now c.loop-rest.text_part.items _ (eqb-true _ _ (sym c.loop-rest-test.ensures))
    c.loop-rest.invariant.code

pub returns-clause-contents : goal.returns-clause-contents
returns-clause-contents c =
    all_bytes c.loop-rest.cursor c.loop-rest.rest.now c.loop-rest.data_part.items _ (eqb-true _ _ (sym c.loop-rest-test.ensures))
    c.loop-rest.invariant.contents

pub returns-clause-text_size : goal.returns-clause-text_size
returns-clause-text_size c =
    c.loop-rest.invariant.text_size
    ∙ ap (λ (e : Cursor). e.text_size)
    (done_end c.loop-rest.cursor (end_of start (lines c.args.source.now)) c.loop-rest.rest.now (eqb-true _ _ (sym c.loop-rest-test.ensures))
    c.loop-rest.invariant.end)

pub returns-clause-data_size : goal.returns-clause-data_size
returns-clause-data_size c =
    c.loop-rest.invariant.data_size
    ∙ ap (λ (e : Cursor). e.data_size)
    (done_end c.loop-rest.cursor (end_of start (lines c.args.source.now)) c.loop-rest.rest.now (eqb-true _ _ (sym c.loop-rest-test.ensures))
    c.loop-rest.invariant.end)

pub returns-clause-coded : goal.returns-clause-coded
returns-clause-coded c =
    all_coded (found c.args.labels.now) c.loop-rest.cursor c.loop-rest.rest.now (ops_in (found c.args.labels.now) start (lines c.args.source.now))
    (eqb-true _ _ (sym c.loop-rest-test.ensures)) c.loop-rest.invariant.coded
