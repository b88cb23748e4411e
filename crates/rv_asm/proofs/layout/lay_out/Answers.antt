use Rattle.std.proofs.Common.{◌≡◌, ◌+◌, ◌≤◌, None, length, refl, sym, arith}
use Rattle.std.proofs.lemmas.Bool.{eqb-true}
use Rattle.rv_asm.specs.Labels.{found}
use Rattle.rv_asm.specs.Layout.{end_of, place_of, start}
use Rattle.rv_asm.specs.Lines.{lines}
use Rattle.rv_asm.specs.Shown.{shown_lines}
use Rattle.rv_asm.proofs.LayingOut.{done, done_end, step, step_end}
use Rattle.rv_asm.proofs.layout.lay_out.Goals as goal

pub loop-rest-init : goal.loop-rest-init
unfolding place_of
loop-rest-init c = record {
  labels = λ q.
      let none : found c.new-labels.result q ≡ None = rw c.new-labels.ensures.empty refl in
      rw none refl;
  end = refl;
  number = omega arith;
  text = omega arith;
  data_room = omega arith;
}

pub loop-rest-preserved : goal.loop-rest-preserved
loop-rest-preserved c =
    let shorter : length c.next_line.result.1.now + 1 ≤ length c.loop-rest.rest.now = omega (arith, c.next_line.ensures.shorter) in
    record {
      labels = step (found c.loop-rest.labels) (found c.define_in.new.labels) c.loop-rest.cursor c.passed-cursor.result c.loop-rest.number
          c.next_line.result.0.now
          (lines c.loop-rest.rest.now) (lines c.next_line.result.1.now) (shown_lines c.line_of-line.result) (place_of c.args.source.now)
          c.next_line.ensures.lines c.line_of-line.ensures.line c.passed-cursor.ensures.cursor c.in_ok-define_in.ensures c.loop-rest.invariant.labels;
      end = step_end c.loop-rest.cursor c.passed-cursor.result (end_of start (lines c.args.source.now)) c.next_line.result.0.now
          (lines c.loop-rest.rest.now) (lines c.next_line.result.1.now) (shown_lines c.line_of-line.result)
          c.next_line.ensures.lines c.line_of-line.ensures.line c.passed-cursor.ensures.cursor c.loop-rest.invariant.end;
      number = omega (arith, shorter, c.loop-rest.invariant.number);
      text = omega (arith, shorter, c.loop-rest.invariant.text, c.passed-cursor.ensures.text);
      data_room = omega (arith, shorter, c.loop-rest.invariant.data_room, c.passed-cursor.ensures.data_room);
    }

pub returns-clause-labels : goal.returns-clause-labels
returns-clause-labels c =
    done (found c.loop-rest.labels) (place_of c.args.source.now) c.loop-rest.cursor c.loop-rest.number c.loop-rest.rest.now
    (eqb-true _ _ (sym c.loop-rest-test.ensures)) c.loop-rest.invariant.labels

pub returns-clause-end : goal.returns-clause-end
returns-clause-end c =
    done_end c.loop-rest.cursor (end_of start (lines c.args.source.now)) c.loop-rest.rest.now (eqb-true _ _ (sym c.loop-rest-test.ensures))
    c.loop-rest.invariant.end
