use Rattle.std.proofs.Common.{◌<◌, ◌^◌, Option, None, subst, arith}
use Rattle.bit_field.specs.Shapes.{IsShape}
use Rattle.run_record.specs.Run.{RecordedRun}
use Rattle.class_map.specs.Maps.{IsNext, IsNextLine}
use Rattle.class_map.specs.declared.map_line.MapLine.{MapLine}
use Rattle.class_map.proofs.MapsWritten.{headed, is_further, one_more, reaches_on, unwritten, written}
use Rattle.class_map.proofs.write.write_map.Goals as goal

pub loop-line-init : goal.loop-line-init
loop-line-init g c = record {
  shape = subst (λ (r : RecordedRun). IsShape r.shape) c.recorded.ensures c.is_record.ensures.record.fits;
  short = subst (λ (r : RecordedRun). r.cycles < 2 ^ 32) c.recorded.ensures (omega (arith, c.is_record.ensures.short));
  so_far =
      headed c.args.a.now (g.K.Sink.taken c.args.out.now) (g.K.Sink.taken c.write_head-so_far.new.out) c.new-buffer.result c.write_head-so_far.result c.new-buffer.ensures
      c.write_head-so_far.ensures.ok c.write_head-so_far.ensures.err;
  is = tt;
  bit = tt;
  to = tt;
  cause = c.write_head-so_far.ensures.cause;
}

pub loop-line-smaller : goal.loop-line-smaller
loop-line-smaller g c =
    let next : IsNextLine c.args.a.now c.loop-line.last c.in-Some.line =
    subst (λ (b : Option MapLine). IsNextLine c.args.a.now b c.in-Some.line) c.as_ref.ensures.value c.in-Some.ensures in
    reaches_on c.args.a.now c.loop-line.last c.in-Some.line c.loop-line.invariant.shape next (let within = next.is.within in omega (arith, within, c.loop-line.invariant.short)) c.loop-line.invariant.bit c.loop-line.invariant.to

pub loop-line-preserved : goal.loop-line-preserved
loop-line-preserved g c =
    let next : IsNextLine c.args.a.now c.loop-line.last c.in-Some.line =
    subst (λ (b : Option MapLine). IsNextLine c.args.a.now b c.in-Some.line) c.as_ref.ensures.value c.in-Some.ensures in
    let small : c.in-Some.line.to < 2 ^ 32 = (let within = next.is.within in omega (arith, within, c.loop-line.invariant.short)) in
    record {
      shape = c.loop-line.invariant.shape;
      short = c.loop-line.invariant.short;
      so_far =
          one_more c.args.a.now (g.K.Sink.taken c.args.out.now) (g.K.Sink.taken c.loop-line.out) (g.K.Sink.taken c.add_line-so_far.new.out) c.loop-line.buffer
          c.add_line-so_far.new.buffer c.loop-line.last c.in-Some.line c.loop-line.so_far c.add_line-so_far.result c.loop-line.invariant.so_far next
          (c.add_line-so_far.ensures.way (g.K.Sink.taken c.args.out.now));
      is = next.is;
      bit = (is_further c.args.a.now c.loop-line.last c.in-Some.line c.loop-line.invariant.shape next small).bit;
      to = small;
      cause = c.add_line-so_far.ensures.cause (g.K.Sink.faults c.args.out.now) c.loop-line.invariant.cause;
    }

pub returns-clause-ok : goal.returns-clause-ok
returns-clause-ok g c =
    written c.args.a.now (g.K.Sink.taken c.args.out.now) (g.K.Sink.taken c.loop-line.out) (g.K.Sink.taken c.end_text.new.out) c.loop-line.buffer c.loop-line.last
    c.loop-line.so_far c.loop-line.invariant.so_far (subst (λ (b : Option MapLine). IsNext c.args.a.now b None) c.as_ref.ensures.value c.in_default.ensures)
    c.end_text.result (c.end_text.ensures.written (g.K.Sink.taken c.args.out.now))

pub returns-clause-err : goal.returns-clause-err
returns-clause-err g c =
    unwritten c.args.a.now (g.K.Sink.taken c.args.out.now) (g.K.Sink.taken c.loop-line.out) (g.K.Sink.taken c.end_text.new.out) c.loop-line.buffer c.loop-line.last
    c.loop-line.so_far c.loop-line.invariant.so_far (subst (λ (b : Option MapLine). IsNext c.args.a.now b None) c.as_ref.ensures.value c.in_default.ensures)
    c.end_text.result (c.end_text.ensures.written (g.K.Sink.taken c.args.out.now))

pub returns-clause-cause : goal.returns-clause-cause
returns-clause-cause g c = c.end_text.ensures.cause (g.K.Sink.faults c.args.out.now) c.loop-line.invariant.cause
