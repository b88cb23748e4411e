use Rattle.std.proofs.Common.{◌-◌, ◌^◌, ◌<◌, IfSome}
use Rattle.avf_base.specs.Causes.{HasCause}
use Rattle.bit_field.specs.Shapes.{IsShape}
use Rattle.class_map.specs.Bounds.{furthest, reach}
use Rattle.class_map.specs.Maps.{IsMapLine}
use Rattle.class_map.proofs.MapsWritten.{IsSoFar}
use Rattle.class_map.proofs.write.write_map.Given as goal

abbrev pub invariant-loop-line : goal.invariant-loop-line
invariant-loop-line g l = record {
  shape : IsShape l.a.r.shape;
  short : l.a.r.cycles < 2 ^ 32;
  so_far : IsSoFar l.a (g.K.Sink.taken l.fn.out) (g.K.Sink.taken l.out) l.buffer l.last l.so_far;
  is : IfSome l.last (λ line. IsMapLine l.a line);
  bit : IfSome l.last (λ line. line.place.bit < 2 ^ 17);
  to : IfSome l.last (λ line. line.to < 2 ^ 32);
  cause : HasCause (g.K.Sink.faults l.fn.out) (g.K.Sink.faults l.out) l.so_far;
}

abbrev pub decreases-loop-line : goal.decreases-loop-line
decreases-loop-line g l = furthest - reach l.last
