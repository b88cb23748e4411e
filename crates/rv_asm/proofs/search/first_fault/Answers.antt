use Rattle.std.proofs.Common.{◌≡◌, ◌∙◌, ◌+◌, ◌≤◌, None, length, rules, sym, arith}
use Rattle.std.proofs.lemmas.Bool.{eqb-true}
use Rattle.rv_asm.specs.Faults.{first_fault}
use Rattle.rv_asm.specs.Labels.{found}
use Rattle.rv_asm.specs.Layout.{start}
use Rattle.rv_asm.specs.Lines.{lines}
use Rattle.rv_asm.specs.Shown.{shown_lines}
use Rattle.rv_asm.proofs.Searching.{go_on, no_line, stop}
use Rattle.rv_asm.proofs.search.first_fault.Goals as goal

pub returns-in-Some : goal.returns-in-Some
returns-in-Some c =
    stop (found c.args.labels.now) c.loop-rest.cursor c.loop-rest.number c.next_line.result.0.now (lines c.loop-rest.rest.now)
    (lines c.next_line.result.1.now) (shown_lines c.line_of-line.result) c.in-Some.fault (first_fault (found c.args.labels.now) start 1 (lines
    c.args.source.now))
    c.next_line.ensures.lines c.line_of-line.ensures.line c.in-Some.ensures c.loop-rest.invariant.fault

pub loop-rest-preserved : goal.loop-rest-preserved
loop-rest-preserved c =
    let shorter : length c.next_line.result.1.now + 1 ≤ length c.loop-rest.rest.now = omega (arith, c.next_line.ensures.shorter) in
    let arm : c.fault_of.result ≡ None = search rules in
    record {
      fault = go_on (found c.args.labels.now) c.loop-rest.cursor c.passed-cursor.result c.loop-rest.number c.next_line.result.0.now
          (lines c.loop-rest.rest.now) (lines c.next_line.result.1.now) (shown_lines c.line_of-line.result) (first_fault (found c.args.labels.now) start 1
          (lines c.args.source.now))
          c.next_line.ensures.lines c.line_of-line.ensures.line c.passed-cursor.ensures.cursor (sym arm ∙ c.fault_of.ensures) c.loop-rest.invariant.fault;
      number = omega (arith, shorter, c.loop-rest.invariant.number);
      text = omega (arith, shorter, c.loop-rest.invariant.text, c.passed-cursor.ensures.text);
      data_room = omega (arith, shorter, c.loop-rest.invariant.data_room, c.passed-cursor.ensures.data_room);
    }

pub returns : goal.returns
returns c =
    no_line (found c.args.labels.now) c.loop-rest.cursor c.loop-rest.number c.loop-rest.rest.now (first_fault (found c.args.labels.now) start 1 (lines
    c.args.source.now))
    (eqb-true _ _ (sym c.loop-rest-test.ensures)) c.loop-rest.invariant.fault
